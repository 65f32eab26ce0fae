use Rattle.std.proofs.Common.{Some, ap, ◌∙◌}
use Rattle.std.proofs.lemmas.Option.{IfSome_then}
use Rattle.regress_backtrack.proofs.BeginningLemmas.{begins_with}
use Rattle.regress_backtrack.proofs.beginning.beginning_of.Goals as goal

pub returns : goal.returns
returns c =
    let begins = c.in-Leaf in
    let found = c.in_ok-leaf in
    IfSome_then c.assertion_of.result c.assertion_of.ensures
    (λ beginning is. begins_with c.args.input.now c.requires beginning begins.leaf begins.next c.in_ok-test_at.field-0.now
    found.ensures.0 (found.ensures.1 ∙ ap Some begins.is) c.in_ok-test_at.ensures is)
