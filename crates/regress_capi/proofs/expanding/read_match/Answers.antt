use Rattle.regress.specs.Compiled.{groups_of}
use Rattle.regress_capi.proofs.ExpandLemmas.{match_read, two_up}
use Rattle.regress_capi.proofs.expanding.read_match.Goals as goal

pub returns-in-Some : goal.returns-in-Some
returns-in-Some c =
    let numbers = c.args.numbers.now in
    match_read c.args.text.now (groups_of c.args.regex.now) numbers _ _ _ (two_up numbers c.in-len2-up.len_at_least) c.in-Some.spans.items
    (rw c.in-Some.is at c.in_ok-spans.ensures.ends) (rw c.in-Some.is at c.in_ok-spans.ensures.set) c.match_with_spans.result
    c.match_with_spans.ensures.spans c.match_with_spans.ensures.count c.match_with_spans.ensures.inside c.match_with_spans.ensures.none
