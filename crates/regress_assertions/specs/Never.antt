-- Patterns that never match, since each way to match them has an assertion that never holds.
use Rattle.std.specs.Prelude.{Bool, false, not, ◌&&◌, ◌||◌, ◌==◌}
use Rattle.regress_tree.specs.Tree.{capture_group, loop, loop_one, lookaround, Tree, Trees, leaf, cat, alt, wrapped, no_trees, more_trees}
use Rattle.regress_assertions.specs.Holding.{unknown, fails}
use Rattle.regress_assertions.specs.Marks.{first_or}

-- The tree never matches there: of a sequence a part, of an alternation both sides, and of a loop its body if it has to
-- have an iteration.
abbrev mutual
  pub never : (backwards : Bool) → (previous next : Tree) → Tree → Bool
  never backwards previous next (leaf l) = fails backwards previous next (leaf l)
  never backwards previous next (cat parts) = some_never backwards previous next parts
  never backwards previous next (alt left right) = never backwards previous next left && never backwards previous next right
  never backwards previous next (wrapped (capture_group id name) body) = never backwards previous next body
  never backwards previous next (wrapped (loop q start end) body) = not (q.min == 0) && never backwards unknown unknown body
  never backwards previous next (wrapped (loop_one q) body) = not (q.min == 0) && never backwards unknown unknown body
  never backwards previous next (wrapped (lookaround negate behind start end) body) =
      fails backwards previous next (wrapped (lookaround negate behind start end) body) || not negate && never behind unknown unknown body

  pub some_never : (backwards : Bool) → (previous next : Tree) → Trees → Bool
  some_never backwards previous next no_trees = false
  some_never backwards previous next (more_trees t ts) =
      never backwards previous (first_or next ts) t || some_never backwards t next ts
