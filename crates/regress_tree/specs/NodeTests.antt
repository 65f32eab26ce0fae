-- Tests on a single node.
use Rattle.std.specs.Prelude.{Bool, true, false, not, ◌&&◌, ◌==◌, List, [], ◌∷◌}
use Rattle.regress_base.specs.Intervals.{Bounds, code_point_max}
use Rattle.regress_tree.specs.Tree.{Leaf, empty, goal, char, byte_sequence, byte_set, char_set, match_any, match_any_except_line_terminator, bracket, Tree, leaf, cat, reverse_trees}

-- The list is empty.
abbrev pub is_none : {X : Type 0} → List X → Bool
is_none [] = true
is_none (x ∷ xs) = false

-- The only interval is that of all code points.
abbrev pub are_all : List Bounds → Bool
are_all [] = false
are_all (iv ∷ []) = (iv.first == 0) && (iv.last == code_point_max)
are_all (iv ∷ next ∷ ivs) = false

-- A bracket of canonical intervals accepts no code point: it has no interval, or it is inverted and has all code
-- points.
abbrev pub accepts_none : (invert : Bool) → List Bounds → Bool
accepts_none false intervals = is_none intervals
accepts_none true intervals = are_all intervals

abbrev pub is_empty_leaf : Leaf → Bool
is_empty_leaf empty = true
is_empty_leaf l = false

-- The node is `Empty`.
abbrev pub is_empty : Tree → Bool
is_empty (leaf l) = is_empty_leaf l
is_empty t = false

abbrev pub is_goal_leaf : Leaf → Bool
is_goal_leaf goal = true
is_goal_leaf l = false

-- The node is `Goal`.
abbrev pub is_goal : Tree → Bool
is_goal (leaf l) = is_goal_leaf l
is_goal t = false

abbrev pub leaf_matches_exactly_one_char : Leaf → Bool
leaf_matches_exactly_one_char (char c) = true
leaf_matches_exactly_one_char (char_set characters) = not (is_none characters)
leaf_matches_exactly_one_char match_any = true
leaf_matches_exactly_one_char match_any_except_line_terminator = true
leaf_matches_exactly_one_char (bracket invert intervals) = not (accepts_none invert intervals)
leaf_matches_exactly_one_char l = false

-- The node is of a kind that takes exactly one character whenever it matches. Some nodes of other kinds do so too.
abbrev pub matches_exactly_one_char : Tree → Bool
matches_exactly_one_char (leaf l) = leaf_matches_exactly_one_char l
matches_exactly_one_char t = false

abbrev pub leaf_always_fails : Leaf → Bool
leaf_always_fails (byte_set bytes) = is_none bytes
leaf_always_fails (char_set characters) = is_none characters
leaf_always_fails (bracket invert intervals) = accepts_none invert intervals
leaf_always_fails l = false

-- The node is a set or a bracket that accepts nothing: it never matches. Some other nodes never match either.
abbrev pub match_always_fails : Tree → Bool
match_always_fails (leaf l) = leaf_always_fails l
match_always_fails t = false

-- The node is a `ByteSequence`, which may be empty.
abbrev pub is_byte_sequence : Tree → Bool
is_byte_sequence (leaf l) = is_byte_sequence_leaf l
  where
    is_byte_sequence_leaf : Leaf → Bool
    is_byte_sequence_leaf (byte_sequence bytes) = true
    is_byte_sequence_leaf l = false
is_byte_sequence t = false

-- a `Cat` with its parts reversed, or any other node unchanged
abbrev pub parts_reversed : Tree → Tree
parts_reversed (cat parts) = cat (reverse_trees parts)
parts_reversed t = t
