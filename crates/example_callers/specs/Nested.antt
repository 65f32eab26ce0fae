-- Nested unbounded loops.
use Rattle.std.specs.Prelude.{◌≡◌, ℕ, ◌<◌, ◌≤◌, Bool, false, ◌&&◌, ◌||◌, Option, Some, None, nat_lt}
use Rattle.std.specs.Option.{is_none}
use Rattle.regress_front.specs.Tree.{Wrapper, loop, loop_one, Tree}
use Rattle.regress_front.specs.Shapes.{some_node, some_node_inside, on_wrapper}

-- a loop without a maximum number of iterations
abbrev pub is_unbounded_loop : Wrapper → Bool
is_unbounded_loop (loop quantifier start end) = is_none quantifier.max
is_unbounded_loop (loop_one quantifier) = is_none quantifier.max
is_unbounded_loop w = false

abbrev pub is_unbounded : Tree → Bool
is_unbounded = on_wrapper is_unbounded_loop

-- an unbounded loop is inside an unbounded loop
abbrev pub has_nested : Tree → Bool
has_nested = some_node (λ t. is_unbounded t && some_node_inside is_unbounded t)

-- a linter's state records an unbounded loop around a node at that depth: one at a smaller depth
abbrev pub is_around : ℕ → Option ℕ → Bool
is_around depth None = false
is_around depth (Some outermost) = nat_lt outermost depth

-- The visit of a node at that depth, an unbounded loop or not: the outermost loop recorded and whether nested loops
-- were found, before and after.
pub record Watches (depth : ℕ) (unbounded : Bool) (old new : Option ℕ) (before after : Bool) : Type 0 where
  pub met : after ≡ (before || (is_around depth old && unbounded))
  pub inside : (d : ℕ) → depth < d → is_around d new ≡ (is_around depth old || unbounded)
  pub outside : (d : ℕ) → d ≤ depth → is_around d new ≡ is_around d old
