-- Whether a pattern matches outside of surrogate pairs, by its tree before it is optimized.
use Rattle.std.specs.Prelude.{Bool, true, false, not, ◌&&◌, ◌||◌, ◌==◌}
use Rattle.std.specs.List.{list_all}
use Rattle.regress_tree.specs.Tree.{Leaf, empty, goal, char, byte_sequence, byte_set, char_set, match_any, match_any_except_line_terminator, anchor, word_boundary, bracket, back_ref, string_set, Wrapper, capture_group, loop, loop_one, lookaround, Tree, Trees, leaf, cat, alt, wrapped, no_trees, more_trees}
use Rattle.regress_ecma.specs.SurrogatePairs.{are_outside_pairs, is_outside_pairs}

-- The leaf matches only characters outside of pairs, or none.
abbrev pub leaf_is_outside : Leaf → Bool
leaf_is_outside empty = true
leaf_is_outside goal = true
leaf_is_outside (char c) = is_outside_pairs c
leaf_is_outside (byte_sequence bytes) = false
leaf_is_outside (byte_set bytes) = false
leaf_is_outside (char_set characters) = list_all is_outside_pairs characters
leaf_is_outside match_any = false
leaf_is_outside match_any_except_line_terminator = false
leaf_is_outside (anchor kind multiline) = true
leaf_is_outside (word_boundary invert unicode_icase) = not unicode_icase
leaf_is_outside (bracket invert intervals) = not invert && are_outside_pairs intervals
leaf_is_outside (back_ref group icase) = false
leaf_is_outside (string_set strings icase) = false

-- The tree is such a leaf.
abbrev pub is_outside_leaf : Tree → Bool
is_outside_leaf (leaf l) = leaf_is_outside l
is_outside_leaf (cat parts) = false
is_outside_leaf (alt left right) = false
is_outside_leaf (wrapped w body) = false

-- All leaves are.
abbrev mutual
  pub tree_is_outside : Tree → Bool
  tree_is_outside (leaf l) = leaf_is_outside l
  tree_is_outside (cat parts) = trees_are_outside parts
  tree_is_outside (alt left right) = tree_is_outside left && tree_is_outside right
  tree_is_outside (wrapped w body) = tree_is_outside body

  pub trees_are_outside : Trees → Bool
  trees_are_outside no_trees = true
  trees_are_outside (more_trees t ts) = tree_is_outside t && trees_are_outside ts

abbrev pub leaf_consumes : Leaf → Bool
leaf_consumes empty = false
leaf_consumes goal = false
leaf_consumes (char c) = true
leaf_consumes (byte_sequence bytes) = true
leaf_consumes (byte_set bytes) = true
leaf_consumes (char_set characters) = true
leaf_consumes match_any = true
leaf_consumes match_any_except_line_terminator = true
leaf_consumes (anchor kind multiline) = false
leaf_consumes (word_boundary invert unicode_icase) = false
leaf_consumes (bracket invert intervals) = true
leaf_consumes (back_ref group icase) = false
leaf_consumes (string_set strings icase) = true

-- The tree is such a leaf.
abbrev pub is_consuming_leaf : Tree → Bool
is_consuming_leaf (leaf l) = leaf_consumes l
is_consuming_leaf (cat parts) = false
is_consuming_leaf (alt left right) = false
is_consuming_leaf (wrapped w body) = false

-- given whether the body consumes a character
abbrev pub wrapper_consumes : Wrapper → Bool → Bool
wrapper_consumes (capture_group id name) body = body
wrapper_consumes (loop q start end) body = not (q.min == 0) && body
wrapper_consumes (loop_one q) body = not (q.min == 0) && body
wrapper_consumes (lookaround negate backwards start end) body = false

-- Each match has at least one character.
abbrev mutual
  pub tree_consumes : Tree → Bool
  tree_consumes (leaf l) = leaf_consumes l
  tree_consumes (cat parts) = some_tree_consumes parts
  tree_consumes (alt left right) = tree_consumes left && tree_consumes right
  tree_consumes (wrapped w body) = wrapper_consumes w (tree_consumes body)

  pub some_tree_consumes : Trees → Bool
  some_tree_consumes no_trees = false
  some_tree_consumes (more_trees t ts) = tree_consumes t || some_tree_consumes ts

-- Both hold of the tree.
abbrev pub tree_matches_outside_pairs : Tree → Bool
tree_matches_outside_pairs t = tree_is_outside t && tree_consumes t
