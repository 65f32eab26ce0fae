use Rattle.std.proofs.Common.{refl}
use Rattle.regress_backtrack.proofs.MachineLemmas.{ranged}
use Rattle.regress_backtrack.proofs.StepLemmas.{ok_map}
use Rattle.regress_backtrack.proofs.machine.Machine.choose_range.Goals as goal

pub returns-clause-ranged : goal.returns-clause-ranged
returns-clause-ranged c =
    ok_map c.push_within.result _ _ (λ x items. ranged c.args.self.now _ c.args.first _ c.args.more refl items refl refl) c.push_within.ensures.items
