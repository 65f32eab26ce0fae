-- Facts about parts in normal form.
use Rattle.std.specs.Prelude.{◌≡◌, ℕ, true, IsTrue, max}
use Rattle.regress_tree.specs.Measures.{total_in_list, nesting, nesting_of_deepest}
use Rattle.regress_tree.specs.NodeTests.{match_always_fails, matches_exactly_one_char}
use Rattle.regress_tree.specs.Shapes.{on_leaf, on_wrapper, some_node_in_list, some_part, is_group, is_loop, is_string_set, has_group, has_loop, has_string_set}
use Rattle.regress_tree.specs.Tree.{Tree, Trees}
use Rattle.regress_tree.specs.Units.{charges, charge}
use Rattle.regress_tree.specs.WellFormed.{one_character, IsAllowed}
use Rattle.regress_rewrite.specs.Splice.{spliced}
use Rattle.regress_normalize.specs.declared.facts.PartFacts.{PartFacts}
use Rattle.regress_normalize.specs.declared.facts.ListFacts.{ListFacts}

-- the tree may be the body of a `Loop1CharBody`
abbrev pub MayBeCharacterLoopBody : Tree → Type 0
MayBeCharacterLoopBody t = (n : ℕ) → IsAllowed n t one_character

-- The facts are those of the tree. But `was_one_character` states only that a loop around the tree may become a
-- `Loop1CharBody`.
pub record HasFacts (facts : PartFacts) (t : Tree) : Type 0 where
  pub charge : facts.charge ≡ charge t
  pub nesting : facts.nesting ≡ nesting t
  pub has_group : facts.has_group ≡ has_group t
  pub has_loop : facts.has_loop ≡ has_loop t
  pub has_string_set : facts.has_string_set ≡ has_string_set t
  pub always_fails : facts.always_fails ≡ match_always_fails t
  pub one : IsTrue facts.was_one_character → MayBeCharacterLoopBody t

-- a tree that was one character still matches exactly one character
abbrev pub IsStillOneCharacter : PartFacts → Tree → Type 0
IsStillOneCharacter facts t = IsTrue facts.was_one_character → matches_exactly_one_char t ≡ true

-- The facts of a list of parts, where each `Cat` counts as its parts.
pub record HasListFacts (facts : ListFacts) (ts : Trees) : Type 0 where
  pub charge : facts.charge ≡ total_in_list charges (spliced ts)
  -- 1 if there is no part
  pub nesting : facts.nesting ≡ max 1 (nesting_of_deepest (spliced ts))
  pub has_group : facts.has_group ≡ some_node_in_list (on_wrapper is_group) ts
  pub has_loop : facts.has_loop ≡ some_node_in_list (on_wrapper is_loop) ts
  pub has_string_set : facts.has_string_set ≡ some_node_in_list (on_leaf is_string_set) ts
  pub some_fails : facts.some_fails ≡ some_part match_always_fails ts
