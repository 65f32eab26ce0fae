-- Simplified brackets.
use Rattle.std.specs.Prelude.{◌≡◌, true, false, not, flat_map}
use Rattle.regress_base.specs.Intervals.{IsCanonical, IsComplement}
use Rattle.regress_base.specs.declared.types.bracket.BracketContents.{BracketContents}
use Rattle.regress_base.specs.Listing.{code_points}
use Rattle.regress_tree.specs.Tree.{Leaf, Tree, leaf, char_set, bracket, tree}
use Rattle.regress_tree.specs.Shapes.{is_small_bracket, is_long_bracket, is_simplified_away}
use Rattle.regress_rewrite.specs.declared.action.PassAction.{PassAction}
use Rattle.regress_rewrite.specs.declared.action.PassAction.TheVariants.{Keep, Modified, Remove, Replace}

-- the bracket with these contents
abbrev pub bracket_of : BracketContents → Leaf
bracket_of contents = bracket contents.invert contents.cps

-- The bracket has more intervals than its complement, and is replaced by the complement with `invert` flipped.
pub record IsFlipped (old new : BracketContents) : Type 0 where
  pub long : is_long_bracket (bracket_of old) ≡ true
  pub canonical : IsCanonical new.cps
  pub complement : IsComplement old.cps new.cps
  pub invert : new.invert ≡ not old.invert

-- The bracket is small, and the tree is the set of its code points in ascending order.
pub record IsListed (old : BracketContents) (new : Tree) : Type 0 where
  pub small : is_small_bracket (bracket_of old) ≡ true
  pub set : new ≡ leaf (char_set (flat_map code_points old.cps))

-- The action simplifies a bracket, where `old` are its contents before the call, and `new` after it.
abbrev pub Simplifies : PassAction → BracketContents → BracketContents → Type 0
Simplifies Keep old new = (is_simplified_away (leaf (bracket_of old)) ≡ false) × (new ≡ old)
Simplifies Modified old new = IsFlipped old new
Simplifies Remove old new = ⊥
Simplifies (Replace node) old new = IsListed old (tree node)
