use Rattle.std.proofs.Common.{◌≡◌, refl, subst}
use Rattle.regress.specs.Compiled.{match_of}
use Rattle.regress_capi.specs.SearchResults.{SearchResult, written}
use Rattle.regress_capi.specs.Spans.{match_ends}
use Rattle.regress_capi.proofs.searches.give_match.Goals as goal

pub returns-in-Some : goal.returns-in-Some
returns-in-Some c =
    let whole = match_ends (match_of c.args.found.now) in
    let put = rw c.in-Some.is at c.put_spans.ensures in
    written tt (whole, refl, put.0, put.1)

pub returns-in-None : goal.returns-in-None
returns-in-None c =
    subst
    (λ old. SearchResult (Unit {0}) (λ numbers. numbers ≡ match_ends (match_of c.args.found.now)) ⊥ ⊥ ⊥ old c.give_listed.result c.give_listed.new.needed c.give_listed.new.buffer)
    (rw c.in-None.is at c.put_spans.ensures) c.give_listed.ensures
