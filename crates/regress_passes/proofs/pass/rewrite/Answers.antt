-- The action is carried out.
use Rattle.regress_tree.specs.Tree.{tree}
use Rattle.regress_tree.specs.Walk.{direction_of}
use Rattle.regress_passes.proofs.SweepLemmas.{Traversed-carried}
use Rattle.regress_passes.proofs.pass.rewrite.Goals as goal

pub returns-clause-swept : goal.returns-clause-swept
returns-clause-swept g c =
    Traversed-carried g.R.Rewrite.removes g.R.Rewrite.is_exact (direction_of c.args.walk.now) (tree c.args.node.now) _ _ _ _
    c.in_ok-action.ensures.lawful c.carry_out.ensures.made c.carry_out.ensures.some
