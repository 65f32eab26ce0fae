-- Unrolled loops.
use Rattle.std.specs.Prelude.{ℕ, ◌-◌, option_map, if◌then◌else◌}
use Rattle.regress_base.specs.declared.types.Quantifier.{Quantifier}
use Rattle.regress_tree.specs.Shapes.{is_zero}
use Rattle.regress_tree.specs.Tree.{Tree, Trees, cat, wrapped, loop, no_trees, more_trees, append_trees, copies}

-- the quantifier of the iterations that may follow the minimum
abbrev pub further_iterations : Quantifier → Quantifier
further_iterations q = record q { min = 0; max = option_map (λ max. max - q.min) q.max }

-- the loop of these iterations, unless there are none
abbrev pub further_loop : Quantifier → (start end : ℕ) → Tree → Trees
further_loop q start end body =
    if is_zero (further_iterations q).max then no_trees else more_trees (wrapped (loop (further_iterations q) start end) body) no_trees

-- a copy of the body for each iteration of the minimum, and then the loop of the others
abbrev pub unrolled : Quantifier → (start end : ℕ) → Tree → Tree
unrolled q start end body = cat (append_trees (copies q.min body) (further_loop q start end body))
