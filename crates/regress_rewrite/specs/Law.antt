-- The law: how a rewrite may change a part of a tree.
use Rattle.std.specs.Prelude.{◌≡◌, ◌≢◌, ℕ, ◌≤◌, Bool, false, IsTrue, List, encode_utf8_all}
use Rattle.regress_tree.specs.Reading.{Direction, IsText}
use Rattle.regress_tree.specs.Steps.{Alike, Setting}
use Rattle.regress_tree.specs.Tree.{Tree, leaf, empty, tree}
use Rattle.regress_tree.specs.Matching.{steps}
use Rattle.regress_tree.specs.WellFormed.{Position, IsAllowed, captures}
use Rattle.regress_tree.specs.Units.{account, IsLess}
use Rattle.regress_tree.specs.Shapes.{LacksShape, is_simplified_away}
use Rattle.regress_rewrite.specs.declared.action.PassAction.{PassAction}
use Rattle.regress_rewrite.specs.declared.action.PassAction.TheVariants.{Keep, Modified, Remove, Replace}

-- the tree may appear somewhere in a well-formed tree
abbrev pub IsPart : Tree → Type 0
IsPart t = (n : ℕ) × (p : Position) × IsAllowed n t p

-- The two trees have the same distinct outcomes from any state, on every UTF-8 text, with any flags and case mappings.
abbrev pub MeansTheSame : Direction → Tree → Tree → Type 0
MeansTheSame d old new = (setting : Setting) (text : List ℕ) → IsText text →
    Alike (steps setting (encode_utf8_all text) d old) (steps setting (encode_utf8_all text) d new)

-- the new tree may appear wherever the old one may
abbrev pub IsAllowedWhere : Tree → Tree → Type 0
IsAllowedWhere old new = (n : ℕ) (p : Position) → IsAllowed n old p → IsAllowed n new p

-- what the law requires that a rewrite keeps, in a direction of matching
pub record Keeps (d : Direction) (old new : Tree) : Type 0 where
  -- the new tree has the same meaning
  pub meaning : MeansTheSame d old new
  -- it may appear wherever the old one may
  pub occurs : IsAllowedWhere old new
  -- it has the same capture groups, with their ids and names
  pub captures : captures new ≡ captures old
  -- it is no larger, with loops counted as if they were unrolled
  pub account : account new ≤ account old
  -- it has no bracket to be simplified if the old one has none
  pub brackets : LacksShape is_simplified_away old → LacksShape is_simplified_away new

-- the tree after the action, where the call left `left` in the node
abbrev pub after : PassAction → Tree → Tree
after Keep left = left
after Modified left = left
after Remove left = leaf empty
after (Replace node) left = tree node

-- The law of a rewrite that removes these shapes: it may leave `left` in the node `old`, and return the action.
pub record ObeysLaw (removes : Tree → Bool) (is_exact : Bool) (d : Direction) (old left : Tree) (action : PassAction) : Type 0 where
  -- the result keeps what the law requires
  pub keeps : Keeps d old (after action left)
  -- the result is less, which ensures that passes end, unless the action is `Keep`
  pub less : action ≢ Keep → IsLess (after action left) old
  -- `Keep` leaves the node unchanged
  pub kept : action ≡ Keep → left ≡ old
  -- `Keep` is returned only if there is nothing to remove
  pub clean : action ≡ Keep → removes old ≡ false
  -- an exact rewrite returns `Keep` whenever there is nothing to remove
  pub exact : IsTrue is_exact → removes old ≡ false → action ≡ Keep
