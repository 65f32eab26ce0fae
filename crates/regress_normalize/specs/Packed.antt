-- Packing a list of parts: each `Empty` is left out, and neighbouring byte sequences become one.
use Rattle.std.specs.Prelude.{◌≡◌, ℕ, ◌+◌, ◌≤◌, Bool, true, false, ◌++◌, max}
use Rattle.regress_tree.specs.Measures.{total_in_list, nesting_of_deepest}
use Rattle.regress_tree.specs.NodeTests.{is_empty, is_goal, match_always_fails}
use Rattle.regress_tree.specs.Reading.{Direction}
use Rattle.regress_tree.specs.Shapes.{on_leaf, on_wrapper, some_node_in_list, some_part, has_neighbours, has_bytes, has_cat, is_string_set}
use Rattle.regress_tree.specs.Tree.{Wrapper, Tree, Trees, leaf, byte_sequence, cat}
use Rattle.regress_tree.specs.Units.{charges}
use Rattle.regress_rewrite.specs.Formed.{bytes_of}
use Rattle.regress_rewrite.specs.Law.{Keeps}
use Rattle.regress_rewrite.specs.Splice.{spliced, list_length}
use Rattle.regress_normalize.specs.Normalized.{ListIsNormal}
use Rattle.regress_normalize.specs.declared.facts.PartFacts.{PartFacts}
use Rattle.regress_normalize.specs.declared.facts.ListFacts.{ListFacts}

-- The new list may replace the old one, and its facts follow from those of the old one.
pub record Packs (d : Direction) (old new : Trees) : Type 0 where
  pub keeps : Keeps d (cat old) (cat new)
  pub normal : ListIsNormal old → ListIsNormal new
  pub cats : has_cat new ≡ has_cat old
  pub fewer : list_length new ≤ list_length old
  -- each part that is removed reduces the size by one
  pub charge : total_in_list charges new + list_length old ≡ total_in_list charges old + list_length new
  pub nesting : max 1 (nesting_of_deepest new) ≡ max 1 (nesting_of_deepest old)
  pub wrappers : (test : Wrapper → Bool) → some_node_in_list (on_wrapper test) new ≡ some_node_in_list (on_wrapper test) old
  pub string_sets : some_node_in_list (on_leaf is_string_set) new ≡ some_node_in_list (on_leaf is_string_set) old
  pub fails : some_part match_always_fails new ≡ some_part match_always_fails old
  pub goals : some_part is_goal new ≡ some_part is_goal old

-- there is nothing to pack
pub record IsPacked (ts : Trees) : Type 0 where
  pub no_empty : some_part is_empty ts ≡ false
  pub no_neighbours : has_neighbours has_bytes ts ≡ false

-- a part has taken the bytes of the part after it
pub record TakesBytes (old part new : Tree) : Type 0 where
  pub own : has_bytes old ≡ true
  pub more : has_bytes part ≡ true
  pub is : new ≡ leaf (byte_sequence (bytes_of old ++ bytes_of part))

-- The list is spliced and packed, and `taken` parts were removed.
pub record IsListPacked (d : Direction) (old new : Trees) (taken : ℕ) : Type 0 where
  pub packs : Packs d (spliced old) new
  pub packed : IsPacked new
  pub count : taken + list_length new ≡ list_length (spliced old)

-- The facts of what replaces a packed list: a `Cat` of it (`around` is 1), or its one part (`around` is 0).
pub record IsFactsOf (list : ListFacts) (taken around : ℕ) (facts : PartFacts) : Type 0 where
  pub charge : facts.charge + taken ≡ list.charge + around
  pub nesting : facts.nesting ≡ list.nesting + around
  pub has_group : facts.has_group ≡ list.has_group
  pub has_loop : facts.has_loop ≡ list.has_loop
  pub has_string_set : facts.has_string_set ≡ list.has_string_set
  pub always_fails : facts.always_fails ≡ false
  pub was_one_character : facts.was_one_character ≡ false
