-- Which trees can match the empty text.
use Rattle.std.specs.Prelude.{Bool, true, false, ◌&&◌, ◌||◌, ◌==◌}
use Rattle.regress_tree.specs.Tree.{Leaf, empty, goal, anchor, word_boundary, back_ref, Wrapper, capture_group, loop, loop_one, lookaround, Tree, Trees, leaf, cat, alt, wrapped, no_trees, more_trees}

-- A back reference matches the empty text if its group is unset. No string of a class or property is empty.
abbrev pub leaf_can_be_empty : Leaf → Bool
leaf_can_be_empty empty = true
leaf_can_be_empty goal = true
leaf_can_be_empty (anchor kind multiline) = true
leaf_can_be_empty (word_boundary invert unicode_icase) = true
leaf_can_be_empty (back_ref group icase) = true
leaf_can_be_empty l = false

-- The tree is such a leaf.
abbrev pub is_empty_leaf : Tree → Bool
is_empty_leaf (leaf l) = leaf_can_be_empty l
is_empty_leaf t = false

-- given whether the body can
abbrev pub wrapper_can_be_empty : Wrapper → Bool → Bool
wrapper_can_be_empty (capture_group id name) body = body
wrapper_can_be_empty (loop q start end) body = q.min == 0 || body
wrapper_can_be_empty (loop_one q) body = q.min == 0 || body
wrapper_can_be_empty (lookaround negate backwards start end) body = true

-- A match of the tree can be empty: of a sequence if one of each part can, of an alternation if one of a side can, and
-- of a loop also if its minimum is 0. Whether the assertions of the tree can hold together is not asked.
abbrev mutual
  pub can_be_empty : Tree → Bool
  can_be_empty (leaf l) = leaf_can_be_empty l
  can_be_empty (cat parts) = all_can_be_empty parts
  can_be_empty (alt left right) = can_be_empty left || can_be_empty right
  can_be_empty (wrapped w body) = wrapper_can_be_empty w (can_be_empty body)

  pub all_can_be_empty : Trees → Bool
  all_can_be_empty no_trees = true
  all_can_be_empty (more_trees t ts) = can_be_empty t && all_can_be_empty ts
