use Rattle.std.proofs.Common.{rules, ◌≡◌, ◌++◌, ◌∷◌, [], refl}
use Rattle.regress_backtrack.proofs.MachineLemmas.{kept-begun}
use Rattle.regress_backtrack.proofs.StepLemmas.{ok_map}
use Rattle.regress_backtrack.proofs.machine.Machine.begin_group.Goals as goal

pub returns-clause-kept : goal.returns-clause-kept
returns-clause-kept c =
    let begun : c.push.new.self.items ≡ c.args.self.now.stack.begins.items ++ c.args.position ∷ [] = search rules in
    ok_map c.push_within.result _ _ (λ x items. kept-begun c.args.self.now _ c.args.position items refl begun) c.push_within.ensures.items
