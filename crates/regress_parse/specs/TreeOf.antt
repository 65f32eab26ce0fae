-- From a syntax tree to the tree of nodes.
use Rattle.std.specs.Prelude.{ℕ, ◌+◌, Bool, true, false, not, ◌&&◌, ◌||◌, ◌==◌, List, [], ◌∷◌, length, map, Option, Some, None, option_map, if◌then◌else◌, encode_utf8_all}
use Rattle.regress_base.specs.Intervals.{Bounds, intervals_of}
use Rattle.regress_base.specs.declared.types.Flags.{Flags}
use Rattle.regress_base.specs.declared.types.Quantifier.{Quantifier}
use Rattle.regress_tree.specs.Reading.{Direction, forwards, backwards}
use Rattle.regress_base.specs.Table.{class_of}
use Rattle.regress_base.specs.Table.{Table}
use Rattle.regress_tree.specs.Tree.{list, Leaf, empty, goal, char, char_set, match_any, match_any_except_line_terminator, word_boundary, bracket, back_ref, string_set, Tree, Trees, leaf, cat, alt, wrapped, capture_group, loop, lookaround, no_trees, more_trees}
use Rattle.regress_tree.specs.Tree as tree
pub use Rattle.regress_tree.specs.Matching.{in_direction}
use Rattle.regress_classes.specs.ClassProductions.{members_of}
use Rattle.regress_classes.specs.ClassSets.{Value}
use Rattle.regress_syntax.specs.Syntax.{Name, is_joined, Atom, literal, dot, anchor, boundary, class_escape, class, class_set, string_property, back_reference, Group, grouping, modified, capture, look, Pattern, Terms, Item, one, either, no_terms, more_terms, atom, group, opened_by, counts_of_item, counts_of_terms, counts_of_term, names, direction_of_group}
use Rattle.regress_syntax.specs.Meaning.{is_in_class, longest_first, referred}

-- the tree of an alternative: `Empty` for no part, the part itself for one, a `Cat` for several
abbrev pub concatenation : Direction → Trees → Tree
concatenation d no_trees = leaf empty
concatenation d (more_trees t no_trees) = t
concatenation d (more_trees t (more_trees u us)) = cat (in_direction d (more_trees t (more_trees u us)))

abbrev pub is_backwards : Direction → Bool
is_backwards forwards = false
is_backwards backwards = true

-- the tree of a group around a body; the group and its body have the ids from start to end - 1
abbrev pub tree_of_group : (start end : ℕ) → Group → Tree → Tree
tree_of_group start end grouping body = body
tree_of_group start end (modified change) body = body
tree_of_group start end (capture name) body = wrapped (capture_group start (option_map encode_utf8_all name)) body
tree_of_group start end (look negate direction) body = wrapped (lookaround negate (is_backwards direction) start end) body

-- the tree of an item with the ids from start to end - 1, and its quantifier
abbrev pub tree_of_quantified : Option Quantifier → (start end : ℕ) → Tree → Tree
tree_of_quantified None start end body = body
tree_of_quantified (Some q) start end body = wrapped (loop q start end) body

-- the leaf that matches one of these characters; a literal has at least one, itself
abbrev pub leaf_of_members : List ℕ → Leaf
leaf_of_members [] = char_set []
leaf_of_members (c ∷ []) = char c
leaf_of_members (c ∷ d ∷ rest) = char_set (c ∷ d ∷ rest)

module _ (table : Table) where
  -- With the flag i a literal matches every character with its canonical form.
  abbrev pub leaf_of_literal : Flags → ℕ → Leaf
  leaf_of_literal flags c = if flags.icase then leaf_of_members (class_of table true flags.unicode c) else char c

-- The tree of an alternation: `Alt(a, Alt(b, c))` for a, b and c, and the part itself for one. Without a part nothing
-- matches.
abbrev pub alternation : List Tree → Tree
alternation [] = leaf (char_set [])
alternation (t ∷ []) = t
alternation (t ∷ next ∷ ts) = alt t (alternation (next ∷ ts))

-- a back reference to each of these groups
abbrev pub references : (icase : Bool) → List ℕ → List Tree
references icase = map (λ k. leaf (back_ref k icase))

-- the tree of references that are tried in order, or joined
abbrev pub tree_of_references : (joined : Bool) → List Tree → Tree
tree_of_references joined ts = if joined then concatenation forwards (list ts) else alternation ts

-- a tree, and after it the empty string, if the class has it
abbrev pub or_empty : (has_empty : Bool) → Tree → Tree
or_empty false t = t
or_empty true t = alt t (leaf empty)

-- the strings and the code points of a class, where it has any
abbrev pub strings_or_points : (has_strings has_points has_empty : Bool) → (strings points : Leaf) → Tree
strings_or_points false false has_empty strings points = if has_empty then leaf empty else leaf points
strings_or_points false true has_empty strings points = or_empty has_empty (leaf points)
strings_or_points true false has_empty strings points = or_empty has_empty (leaf strings)
strings_or_points true true has_empty strings points = alt (leaf strings) (or_empty has_empty (leaf points))

-- The tree of a class with the flag v, given the closure of its code points. An inverted class always has a bracket.
abbrev pub tree_of_class : (icase negated : Bool) → Value → (closed : List Bounds) → Tree
tree_of_class icase negated value closed =
    strings_or_points (not (length value.strings == 0)) (negated || not (length closed == 0)) value.has_empty
    (string_set (longest_first value.strings) icase) (bracket negated closed)

module _ (table : Table) (names : List (Option Name)) where
  -- the tree of an atom, with the flags in force there
  abbrev pub tree_of_atom : Atom → Tree
  tree_of_atom (literal flags c) = leaf (leaf_of_literal table flags c)
  tree_of_atom (dot flags) = leaf (if flags.dot_all then match_any else match_any_except_line_terminator)
  tree_of_atom (anchor flags kind) = leaf (tree.anchor kind flags.multiline)
  tree_of_atom (boundary flags inverted) = leaf (word_boundary inverted (flags.unicode && flags.icase))
  -- the set is the complement already
  tree_of_atom (class_escape flags kind negated) =
      leaf (bracket false (intervals_of (is_in_class table flags negated (members_of kind))))
  tree_of_atom (class flags inverted members) = leaf (bracket inverted (intervals_of (is_in_class table flags false members)))
  tree_of_atom (class_set flags negated value) =
      tree_of_class flags.icase negated value (intervals_of (is_in_class table flags false value.members))
  tree_of_atom (string_property flags written) = leaf (string_set written flags.icase)
  tree_of_atom (back_reference flags to) = tree_of_references (is_joined to) (references flags.icase (referred names to))

  -- the trees in a direction, after n opened groups
  abbrev mutual
    pub tree_of_pattern : Direction → ℕ → Pattern → Tree
    tree_of_pattern d n (one ts) = concatenation d (trees_of_terms d n ts)
    tree_of_pattern d n (either ts p) = alt (concatenation d (trees_of_terms d n ts)) (tree_of_pattern d (n + (counts_of_terms ts).groups) p)

    -- in the order in which the terms are written
    pub trees_of_terms : Direction → ℕ → Terms → Trees
    trees_of_terms d n no_terms = no_trees
    trees_of_terms d n (more_terms x q xs) =
        more_trees (tree_of_quantified q n (n + (counts_of_item x).groups) (tree_of_item d n x))
        (trees_of_terms d (n + (counts_of_term x q).groups) xs)

    pub tree_of_item : Direction → ℕ → Item → Tree
    tree_of_item d n (atom a) = tree_of_atom a
    tree_of_item d n (group kind p) =
        tree_of_group n (n + (counts_of_item (group kind p)).groups) kind
        (tree_of_pattern (direction_of_group kind d) (n + opened_by kind) p)

-- the tree of a whole pattern
abbrev pub tree_of : Table → Pattern → Tree
tree_of table p = cat (more_trees (tree_of_pattern table (names p) forwards 0 p) (more_trees (leaf goal) no_trees))
