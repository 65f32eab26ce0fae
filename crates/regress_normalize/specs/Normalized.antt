-- The effect of normalizing a part of a tree.
use Rattle.std.specs.Prelude.{◌≡◌, ◌⊎◌, true, [], Result, IfOk, OnOk}
use Rattle.std.specs.declared.alloc.AllocError.{AllocError}
use Rattle.regress_tree.specs.NodeTests.{is_goal}
use Rattle.regress_tree.specs.NormalForm.{IsNormal}
use Rattle.regress_tree.specs.Reading.{Direction}
use Rattle.regress_tree.specs.Shapes.{some_part}
use Rattle.regress_tree.specs.Tree.{byte_set, Wrapper, Tree, Trees, leaf, cat, alt, wrapped, no_trees, more_trees}
use Rattle.regress_rewrite.specs.Law.{Keeps}
use Rattle.regress_rewrite.specs.Splice.{parts_of}
use Rattle.regress_normalize.specs.PartFacts.{HasFacts, IsStillOneCharacter, HasListFacts}
use Rattle.regress_normalize.specs.declared.facts.PartFacts.{PartFacts}
use Rattle.regress_normalize.specs.declared.facts.ListFacts.{ListFacts}

-- the tree or one of its parts is `Goal`, or it is an empty set
abbrev pub HasGoal : Tree → Type 0
HasGoal t = (some_part is_goal (parts_of t) ≡ true) ⊎ (t ≡ leaf (byte_set []))

-- The new tree keeps what the law requires, whatever the result is. Unless an allocation failed it is in normal form
-- and has the facts.
pub record Finished (clean : Type 0) (d : Direction) (old new : Tree) (response : Result PartFacts AllocError) : Type 0 where
  pub keeps : Keeps d old new
  pub goal : HasGoal old → HasGoal new
  pub normal : OnOk response (IsNormal new)
  pub facts : IfOk response (λ facts. HasFacts facts new)
  -- a tree that satisfies `clean` is unchanged
  pub left : clean → new ≡ old
  pub still_one : clean → IfOk response (λ facts. IsStillOneCharacter facts new)

-- Normalizing leaves a tree unchanged that is in normal form.
abbrev pub Normalized : Direction → (old new : Tree) → Result PartFacts AllocError → Type 0
Normalized d old new response = Finished (IsNormal old) d old new response

-- a node around a body with these facts is in normal form, and the facts promote no further loop
abbrev pub IsCleanAround : PartFacts → Tree → Type 0
IsCleanAround facts (leaf l) = IsNormal (leaf l)
IsCleanAround facts (cat parts) = IsNormal (cat parts)
IsCleanAround facts (alt left right) = IsNormal (alt left right)
IsCleanAround facts (wrapped w body) = IsNormal (wrapped w body) × IsStillOneCharacter facts body

-- each tree of the list is in normal form
abbrev pub ListIsNormal : Trees → Type 0
ListIsNormal no_trees = Unit {0}
ListIsNormal (more_trees t ts) = IsNormal t × ListIsNormal ts

-- ---- nodes whose children are in normal form, with their facts

-- a `Cat` whose parts have these facts
pub record IsCatOf (list : ListFacts) (t : Tree) : Type 0 where
  pub parts : Trees
  pub is : t ≡ cat parts
  pub normal : ListIsNormal parts
  pub facts : HasListFacts list parts

-- an `Alt` whose sides have these facts
pub record IsAltOf (left_facts right_facts : PartFacts) (t : Tree) : Type 0 where
  pub left : Tree
  pub right : Tree
  pub is : t ≡ alt left right
  pub left_normal : IsNormal left
  pub left_has : HasFacts left_facts left
  pub right_normal : IsNormal right
  pub right_has : HasFacts right_facts right

-- a wrapper whose body has these facts
pub record IsWrapperOf (facts : PartFacts) (t : Tree) : Type 0 where
  pub wrapper : Wrapper
  pub body : Tree
  pub is : t ≡ wrapped wrapper body
  pub normal : IsNormal body
  pub has : HasFacts facts body
