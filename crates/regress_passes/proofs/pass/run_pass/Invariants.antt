use Rattle.std.proofs.Common.{◌≡◌, Bool, Ok}
use Rattle.regress_tree.specs.Reading.{forwards}
use Rattle.regress_tree.specs.Tree.{Tree, tree}
use Rattle.regress_tree.specs.Units.{account}
use Rattle.regress_tree.specs.Shapes.{LacksShape}
use Rattle.regress_passes.specs.Sweep.{Traversed}
use Rattle.regress_passes.specs.Passes.{Passed}
use Rattle.regress_tree.proofs.lemmas.Falling.{changes_left}
use Rattle.regress_passes.proofs.pass.run_pass.Given as goal

-- each traversal so far changed something, so no shape is known to be removed
abbrev pub invariant-loop-changed : goal.invariant-loop-changed
invariant-loop-changed g l = record {
  flags : l.r.flags ≡ l.initial.r.flags;
  passed : (u : Tree) (b : _) (going : Bool) → Passed g.R.Rewrite.step l.initial.r.flags.unicode l.pass (tree l.r.node) u b going →
      Passed g.R.Rewrite.step l.initial.r.flags.unicode l.initial.pass (tree l.initial.r.node) u b going;
  swept : Traversed (LacksShape g.R.Rewrite.removes (tree l.initial.r.node)) (Unit {0}) g.R.Rewrite.is_exact forwards
      (tree l.initial.r.node) (tree l.r.node) (Ok l.changed);
}

abbrev pub decreases-loop-changed : goal.decreases-loop-changed
decreases-loop-changed g l = changes_left (account (tree l.initial.r.node)) (tree l.r.node)
