-- Which loops are unrolled, and any node with its loop unrolled.
use Rattle.std.specs.Prelude.{ℕ, ◌-◌, Bool, Option, Some, None, if◌then◌else◌}
use Rattle.regress_tree.specs.Measures.{total_in_list, nesting, nesting_of_deepest}
use Rattle.regress_tree.specs.Shapes.{on_leaf, on_wrapper, some_node_in_list, is_loop, is_string_set, has_loop, has_string_set, is_within}
use Rattle.regress_tree.specs.Tree.{Tree, Trees, wrapped, loop}
use Rattle.regress_tree.specs.Units.{charges, charge}
use Rattle.regress_rewrite.specs.Unroll.{unrolled}

-- The budget that remains after a charge: `None` if it is too small, if the nesting is deeper than `most`, or if there
-- are loops or sets of strings.
abbrev pub left_of_budget : (most budget : ℕ) (loops strings : Bool) (charge nesting : ℕ) → Option ℕ
left_of_budget most budget loops strings charge nesting =
    if is_within most budget loops strings charge nesting then Some (budget - charge) else None

-- the budget that remains after a copy of the tree
abbrev pub remaining_budget : (most budget : ℕ) → Tree → Option ℕ
remaining_budget most budget t = left_of_budget most budget (has_loop t) (has_string_set t) (charge t) (nesting t)

-- the same for copies of all parts of a list
abbrev pub remaining_budget_of_parts : (most budget : ℕ) → Trees → Option ℕ
remaining_budget_of_parts most budget ts =
    left_of_budget most budget (some_node_in_list (on_wrapper is_loop) ts) (some_node_in_list (on_leaf is_string_set) ts)
    (total_in_list charges ts) (nesting_of_deepest ts)

-- an unrolled loop; any other tree is unchanged
abbrev pub unrolled_loop : Tree → Tree
unrolled_loop (wrapped (loop q start end) body) = unrolled q start end body
unrolled_loop t = t
