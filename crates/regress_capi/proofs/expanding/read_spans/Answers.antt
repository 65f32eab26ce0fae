use Rattle.std.proofs.Common.{◌≡◌, arith, length}
use Rattle.std.proofs.lemmas.Grind.{common_steps}
use Rattle.regress_capi.proofs.ExpandLemmas.{one_left}
use Rattle.regress_capi.proofs.expanding.read_spans.Goals as goal

pub returns-else-is_empty-clause-ends : goal.returns-else-is_empty-clause-ends
returns-else-is_empty-clause-ends c = λ spans is.
    let one : length c.loop-rest.rest.now ≡ 1 = grind (arith, common_steps) in
    one_left c.loop-rest.spans.items spans c.loop-rest.rest.now c.args.ends.now c.loop-rest.invariant.ends one is
