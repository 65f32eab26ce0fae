-- Tests on the nodes of a tree, and the shapes that rewrites remove.
use Rattle.std.specs.Prelude.{◌≡◌, ℕ, ◌+◌, ◌-◌, ◌==◌, Bool, true, false, not, ◌&&◌, ◌||◌, nat_le, nat_lt, if◌then◌else◌, List, [], ◌∷◌, length, Option, Some, None}
use Rattle.std.specs.List.{list_all}
use lib.Utf8.{scalar}
use Rattle.regress_base.specs.Intervals.{Bounds, code_point_max}
use Rattle.regress_base.specs.Limits.{max_char_set_length}
use Rattle.regress_base.specs.declared.types.Quantifier.{Quantifier}
use Rattle.regress_tree.specs.Measures.{nesting}
use Rattle.regress_tree.specs.NodeTests.{is_none, is_empty, is_goal, match_always_fails, matches_exactly_one_char}
use Rattle.regress_tree.specs.Units.{charge}
use Rattle.regress_tree.specs.Tree.{Leaf, char, byte_sequence, char_set, bracket, string_set, Wrapper, capture_group, loop, loop_one, lookaround, Tree, Trees, leaf, cat, alt, wrapped, no_trees, more_trees}

module _ (test : Tree → Bool) where
  -- Some node of the tree, or of the list of trees, passes the test.
  abbrev mutual
    pub some_node : Tree → Bool
    some_node (leaf l) = test (leaf l)
    some_node (cat parts) = test (cat parts) || some_node_in_list parts
    some_node (alt left right) = test (alt left right) || (some_node left || some_node right)
    some_node (wrapped w body) = test (wrapped w body) || some_node body

    pub some_node_in_list : Trees → Bool
    some_node_in_list no_trees = false
    some_node_in_list (more_trees t ts) = some_node t || some_node_in_list ts

  -- Some node below the root passes the test.
  abbrev pub some_node_inside : Tree → Bool
  some_node_inside (leaf l) = false
  some_node_inside (cat parts) = some_node_in_list parts
  some_node_inside (alt left right) = some_node left || some_node right
  some_node_inside (wrapped w body) = some_node body

module _ (shape : Tree → Bool) where
  -- No node of the tree has the shape.
  abbrev pub LacksShape : Tree → Type 0
  LacksShape t = some_node shape t ≡ false

  -- No node of the trees of the list has the shape.
  abbrev pub ListLacksShape : Trees → Type 0
  ListLacksShape ts = some_node_in_list shape ts ≡ false

  -- No node below the root has the shape.
  abbrev pub LacksInside : Tree → Type 0
  LacksInside t = some_node_inside shape t ≡ false

-- ---- tests on a leaf, or on a node with a body

abbrev pub on_leaf : (Leaf → Bool) → Tree → Bool
on_leaf test (leaf l) = test l
on_leaf test t = false

-- a node with a body, which passes the test without its body
abbrev pub on_wrapper : (Wrapper → Bool) → Tree → Bool
on_wrapper test (wrapped w body) = test w
on_wrapper test t = false

-- a `Loop` whose quantifier, group range and body pass the test
abbrev pub on_loop : (Quantifier → (start end : ℕ) → Tree → Bool) → Tree → Bool
on_loop test (wrapped (loop quantifier start end) body) = test quantifier start end body
on_loop test t = false

-- The root of some tree of the list passes the test.
abbrev pub some_part : (Tree → Bool) → Trees → Bool
some_part test no_trees = false
some_part test (more_trees t ts) = test t || some_part test ts

-- The first tree of the list passes the test.
abbrev pub first_in_list : (Tree → Bool) → Trees → Bool
first_in_list test no_trees = false
first_in_list test (more_trees t ts) = test t

-- The last tree of the list passes the test.
abbrev pub last_in_list : (Tree → Bool) → Trees → Bool
last_in_list test no_trees = false
last_in_list test (more_trees t no_trees) = test t
last_in_list test (more_trees t (more_trees u us)) = last_in_list test (more_trees u us)

-- The tree is `Goal`, or a `Cat` whose last part is `Goal`.
abbrev pub ends_in_goal : Tree → Bool
ends_in_goal (cat parts) = last_in_list is_goal parts
ends_in_goal t = is_goal t

-- Two adjacent trees of the list pass the test.
abbrev pub has_neighbours : (Tree → Bool) → Trees → Bool
has_neighbours test no_trees = false
has_neighbours test (more_trees t ts) = (test t && first_in_list test ts) || has_neighbours test ts

-- a capture group
abbrev pub is_group : Wrapper → Bool
is_group (capture_group id name) = true
is_group w = false

-- a loop of either kind
abbrev pub is_loop : Wrapper → Bool
is_loop (loop quantifier start end) = true
is_loop (loop_one quantifier) = true
is_loop w = false

-- a `StringSet`
abbrev pub is_string_set : Leaf → Bool
is_string_set (string_set strings icase) = true
is_string_set l = false

-- Some node of the tree is a capture group.
abbrev pub has_group : Tree → Bool
has_group = some_node (on_wrapper is_group)

-- Some node of the tree is a loop of either kind.
abbrev pub has_loop : Tree → Bool
has_loop = some_node (on_wrapper is_loop)

-- Some node of the tree is a `StringSet`.
abbrev pub has_string_set : Tree → Bool
has_string_set = some_node (on_leaf is_string_set)

-- ---- shapes that rewrites remove

-- a bracket whose `invert` and intervals pass the test
abbrev pub is_bracket_with : (Bool → List Bounds → Bool) → Leaf → Bool
is_bracket_with test (bracket invert intervals) = test invert intervals
is_bracket_with test l = false

-- the number of code points in the intervals
abbrev pub code_point_count : List Bounds → ℕ
code_point_count [] = 0
code_point_count (iv ∷ ivs) = (iv.last + 1 - iv.first) + code_point_count ivs

-- The number of gaps before the intervals (from `start` on), between them, and after them up to the greatest code
-- point. With 0 as the start it is the number of intervals of the complement.
abbrev pub gap_count : (start : ℕ) → List Bounds → ℕ
gap_count start [] = if nat_le start code_point_max then 1 else 0
gap_count start (iv ∷ ivs) = (if nat_lt start iv.first then 1 else 0) + gap_count (iv.last + 1) ivs

-- a bracket, not inverted, of at most four code points
abbrev pub is_small_bracket : Leaf → Bool
is_small_bracket = is_bracket_with (λ invert intervals. not invert && nat_le (code_point_count intervals) max_char_set_length)

-- a bracket with more intervals than its complement
abbrev pub is_long_bracket : Leaf → Bool
is_long_bracket = is_bracket_with (λ invert intervals. nat_lt (gap_count 0 intervals) (length intervals))

-- the shapes that simplifying brackets removes
abbrev pub is_simplified_away : Tree → Bool
is_simplified_away = on_leaf (λ l. is_small_bracket l || is_long_bracket l)

-- The node is a `Cat`.
abbrev pub is_cat : Tree → Bool
is_cat (cat parts) = true
is_cat t = false

-- Some tree of the list is a `Cat`.
abbrev pub has_cat : Trees → Bool
has_cat = some_part is_cat

-- The list has fewer than two trees.
abbrev pub is_short : Trees → Bool
is_short no_trees = true
is_short (more_trees t no_trees) = true
is_short (more_trees t (more_trees u ts)) = false

-- The shapes that flattening removes: a `Cat` of fewer than two parts, or with a `Cat` as a part.
abbrev pub is_flattened_away : Tree → Bool
is_flattened_away (cat parts) = is_short parts || has_cat parts
is_flattened_away t = false

-- the greatest charge of the body of a loop that is unrolled, and its greatest nesting depth
abbrev pub max_body_charge : ℕ
max_body_charge = 256

abbrev pub max_body_nesting : ℕ
max_body_nesting = 101

-- There are no loops and no `StringSet`, and charge and nesting depth are within the bounds.
abbrev pub is_within : (most_nesting budget : ℕ) (loops strings : Bool) (charge nesting : ℕ) → Bool
is_within most_nesting budget loops strings charge nesting =
    (not loops && not strings) && (nat_le charge budget && nat_le nesting most_nesting)

-- The loop has no groups, and its minimum is one to five iterations.
abbrev pub has_few_iterations : Quantifier → (start end : ℕ) → Bool
has_few_iterations quantifier start end = nat_le end start && (nat_le 1 quantifier.min && nat_le quantifier.min 5)

-- Such a loop is unrolled if its body is within the bounds, since the body is copied for each iteration of the minimum.
abbrev pub may_unroll_by : Quantifier → (start end : ℕ) (loops strings : Bool) (charge nesting : ℕ) → Bool
may_unroll_by quantifier start end loops strings charge nesting =
    has_few_iterations quantifier start end && is_within max_body_nesting max_body_charge loops strings charge nesting

-- The same for a loop around this body.
abbrev pub may_unroll : Quantifier → (start end : ℕ) → Tree → Bool
may_unroll quantifier start end body =
    may_unroll_by quantifier start end (has_loop body) (has_string_set body) (charge body) (nesting body)

-- the shape that unrolling removes
abbrev pub is_unrolled_away : Tree → Bool
is_unrolled_away = on_loop may_unroll

-- The shape that promotion removes: a `Loop` whose body passes the test `matches_exactly_one_char`.
abbrev pub is_promoted_away : Tree → Bool
is_promoted_away = on_loop (λ quantifier start end body. matches_exactly_one_char body)

-- a `ByteSequence` whose bytes pass the test
abbrev pub is_byte_sequence_with : (List ℕ → Bool) → Leaf → Bool
is_byte_sequence_with test (byte_sequence bytes) = test bytes
is_byte_sequence_with test l = false

-- a `ByteSequence` that is not empty
abbrev pub has_bytes : Tree → Bool
has_bytes = on_leaf (is_byte_sequence_with (λ bytes. not (is_none bytes)))

-- a `Char` that is a character, or a `CharSet` of ASCII only, which may be empty
abbrev pub is_bytes_leaf : Leaf → Bool
is_bytes_leaf (char c) = scalar c
is_bytes_leaf (char_set characters) = list_all (λ c. nat_le c 127) characters
is_bytes_leaf l = false

-- The shapes that forming literal bytes removes: such a leaf, and a `Cat` with two adjacent byte sequences that are not
-- empty.
abbrev pub is_formed_away : Tree → Bool
is_formed_away (leaf l) = is_bytes_leaf l
is_formed_away (cat parts) = has_neighbours has_bytes parts
is_formed_away t = false

-- The maximum is zero.
abbrev pub is_zero : Option ℕ → Bool
is_zero None = false
is_zero (Some n) = n == 0

-- a `Loop` with an `Empty` body, or with a maximum of zero iterations and without groups; a lookaround around `Empty`
-- that is not negated
abbrev pub is_empty_wrapper : Wrapper → Tree → Bool
is_empty_wrapper (loop quantifier start end) body = is_empty body || (is_zero quantifier.max && nat_le end start)
is_empty_wrapper (lookaround negate backwards start end) body = not negate && is_empty body
is_empty_wrapper w body = false

-- The shapes that removing empties removes: these, an empty `ByteSequence`, an `Alt` of two `Empty`, and a `Cat` with
-- an `Empty` part.
abbrev pub is_emptied_away : Tree → Bool
is_emptied_away (leaf l) = is_byte_sequence_with is_none l
is_emptied_away (cat parts) = some_part is_empty parts
is_emptied_away (alt left right) = is_empty left && is_empty right
is_emptied_away (wrapped w body) = is_empty_wrapper w body

-- a `Cat` with a part that always fails, an `Alt` with such a side, or a `Loop` with such a body and a minimum of at
-- least one iteration
abbrev pub fails_by_part : Tree → Bool
fails_by_part (cat parts) = some_part match_always_fails parts
fails_by_part (alt left right) = match_always_fails left || match_always_fails right
fails_by_part t = on_loop (λ quantifier start end body. nat_le 1 quantifier.min && match_always_fails body) t

-- The shapes that propagating early failure removes: these, where no capture group is inside.
abbrev pub is_failed_away : Tree → Bool
is_failed_away t = fails_by_part t && not (has_group t)
