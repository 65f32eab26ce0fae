-- Steps to the normal form.
use Rattle.std.specs.Prelude.{◌≡◌, Bool, true, false}
use Rattle.regress_tree.specs.Copies.{is_leaf}
use Rattle.regress_tree.specs.NormalForm.{IsNormal}
use Rattle.regress_tree.specs.Reading.{Direction}
use Rattle.regress_tree.specs.Tree.{Tree, alt}
use Rattle.regress_rewrite.specs.Law.{Keeps}
use Rattle.regress_normalize.specs.Normalized.{HasGoal}
use Rattle.regress_normalize.specs.PartFacts.{HasFacts}
use Rattle.regress_normalize.specs.declared.facts.PartFacts.{PartFacts}

-- What normalizing part of a tree keeps, whatever the result is.
pub record Denotes (d : Direction) (old new : Tree) : Type 0 where
  pub keeps : Keeps d old new
  pub goal : HasGoal old → HasGoal new
  -- a tree in normal form is unchanged
  pub left : IsNormal old → new ≡ old

-- What removing one kind of shape from a leaf keeps, whatever the result is.
pub record Clears (removes : Tree → Bool) (old new : Tree) : Type 0 where
  pub keeps : (d : Direction) → Keeps d old new
  pub leaf : is_leaf new ≡ true
  -- a leaf without the shape is unchanged
  pub left : removes old ≡ false → new ≡ old

-- an `Alt` whose right side is in normal form and has these facts
pub record IsAltOnto (right_facts : PartFacts) (t : Tree) : Type 0 where
  pub left : Tree
  pub right : Tree
  pub is : t ≡ alt left right
  pub normal : IsNormal right
  pub has : HasFacts right_facts right
