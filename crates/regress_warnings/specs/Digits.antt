-- A `.` between digits.
use Rattle.std.specs.Prelude.{ℕ, Bool, true, false, not, ◌&&◌, ◌||◌, nat_le}
use Rattle.std.specs.List.{list_all}
use Rattle.regress_base.specs.Intervals.{Bounds}
use Rattle.regress_tree.specs.Tree.{Leaf, match_any, match_any_except_line_terminator, bracket, Wrapper, capture_group, loop, loop_one, lookaround, Tree, Trees, leaf, cat, alt, wrapped, no_trees, more_trees}
use Rattle.regress_tree.specs.Tree as tree
use Rattle.regress_lexer.specs.Source.{char}

abbrev pub is_digit : ℕ → Bool
is_digit c = nat_le (char "0") c && nat_le c (char "9")

abbrev pub are_digits : Bounds → Bool
are_digits b = nat_le (char "0") b.first && nat_le b.last (char "9")

-- a digit, or a class of digits such as `\d`
abbrev pub leaf_is_digit : Leaf → Bool
leaf_is_digit (tree.char c) = is_digit c
leaf_is_digit (bracket invert intervals) = not invert && list_all are_digits intervals
leaf_is_digit l = false

-- a digit, with or without quantifiers and capture groups around it
abbrev pub is_digits : Tree → Bool
is_digits (leaf l) = leaf_is_digit l
is_digits (cat parts) = false
is_digits (alt left right) = false
is_digits (wrapped (capture_group id name) body) = is_digits body
is_digits (wrapped (loop q start end) body) = is_digits body
is_digits (wrapped (loop_one q) body) = is_digits body
is_digits (wrapped (lookaround negate backwards start end) body) = false

abbrev pub leaf_is_dot : Leaf → Bool
leaf_is_dot match_any = true
leaf_is_dot match_any_except_line_terminator = true
leaf_is_dot l = false

-- the tree is that of `.`
abbrev pub is_dot : Tree → Bool
is_dot (leaf l) = leaf_is_dot l
is_dot t = false

-- the list begins with digits
abbrev pub begins_with_digits : Trees → Bool
begins_with_digits no_trees = false
begins_with_digits (more_trees t ts) = is_digits t

abbrev mutual
  -- the list begins with a `.` and digits, which a group or a loop may contain
  pub begins_with_dot : Trees → Bool
  begins_with_dot no_trees = false
  begins_with_dot (more_trees t ts) = is_dot t && begins_with_digits ts || contains_dot_first t

  -- the group or the loop contains a list that begins so, as `(?:.\d+)?`
  pub contains_dot_first : Tree → Bool
  contains_dot_first (leaf l) = false
  contains_dot_first (cat parts) = begins_with_dot parts
  contains_dot_first (alt left right) = false
  contains_dot_first (wrapped (capture_group id name) body) = contains_dot_first body
  contains_dot_first (wrapped (loop q start end) body) = contains_dot_first body
  contains_dot_first (wrapped (loop_one q) body) = contains_dot_first body
  contains_dot_first (wrapped (lookaround negate backwards start end) body) = false

-- somewhere in the list digits, a `.` and digits follow one another
abbrev pub has_dot_between_digits : Trees → Bool
has_dot_between_digits no_trees = false
has_dot_between_digits (more_trees t ts) = is_digits t && begins_with_dot ts || has_dot_between_digits ts
