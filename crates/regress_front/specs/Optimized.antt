-- The result of `optimize`: the new tree, and whether an allocation failed.
use Rattle.std.specs.Prelude.{◌≡◌, ◌⊎◌, true, ◌≤◌, ◌+◌, ◌*◌, Result, OnOk}
use Rattle.std.specs.declared.alloc.AllocError.{AllocError}
use Rattle.regress_tree.specs.declared.ir.node.Regex.{Regex}
use Rattle.regress_tree.specs.Reading.{forwards}
use Rattle.regress_tree.specs.NodeTests.{match_always_fails}
use Rattle.regress_tree.specs.Shapes.{ends_in_goal}
use Rattle.regress_tree.specs.Tree.{tree}
use Rattle.regress_tree.specs.WellFormed.{IsWellFormed, captures}
use Rattle.regress_tree.specs.Units.{units, unrolling, loops, account}
use Rattle.regress_tree.specs.NormalForm.{IsNormal}
use Rattle.regress_rewrite.specs.Law.{MeansTheSame}

-- The tree has the same meaning and ends in `Goal` as before. It is in normal form unless an allocation failed, and
-- unchanged if it was in normal form before.
pub record IsOptimized (old : Regex) (response : Regex × Result (Unit {0}) AllocError) : Type 0 where
  pub meaning : MeansTheSame forwards (tree old.node) (tree response.0.node)
  pub well_formed : IsWellFormed (tree response.0.node)
  pub captures : captures (tree response.0.node) ≡ captures (tree old.node)
  pub account : account (tree response.0.node) ≤ account (tree old.node)
  pub units : units (tree response.0.node) ≤ units (tree old.node) + unrolling * loops (tree old.node)
  pub flags : response.0.flags ≡ old.flags
  pub goal : (ends_in_goal (tree response.0.node) ≡ ends_in_goal (tree old.node)) ⊎ (match_always_fails (tree response.0.node) ≡ true)
  pub normal : OnOk response.1 (IsNormal (tree response.0.node))
  pub left : IsNormal (tree old.node) → tree response.0.node ≡ tree old.node
