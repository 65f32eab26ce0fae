use Rattle.std.proofs.Common.{refl}
use Rattle.regress_backtrack.proofs.MachineLemmas.{chosen}
use Rattle.regress_backtrack.proofs.StepLemmas.{ok_map}
use Rattle.regress_backtrack.proofs.machine.Machine.choose.Goals as goal

pub returns-clause-chosen : goal.returns-clause-chosen
returns-clause-chosen c =
    ok_map c.push_within.result _ _ (λ x items. chosen c.args.self.now _ c.args.place items refl refl) c.push_within.ensures.items
