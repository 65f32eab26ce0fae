-- The cost of a program: the steps of a run that follows every outcome.
use Rattle.std.specs.Prelude.{◌≡◌, ℕ, ◌+◌, ◌-◌, ◌/◌, ◌≤◌, ◌<◌, Bool, List, ◌∷◌, length, min, slice_get, get_or, sum_by, Option, Some, None, if◌then◌else◌}
use Rattle.std.specs.Int.{abs_diff}
use Rattle.regress_tree.specs.Lookaround.{lookaround_matcher}
use Rattle.regress_tree.specs.Matching.{steps}
use Rattle.regress_tree.specs.Reading.{Direction, forwards, backwards}
use Rattle.regress_tree.specs.Repetition.{unset}
use Rattle.regress_tree.specs.Steps.{CaptureSpan, MatchState, Matcher, Setting}
use Rattle.regress_tree.specs.Tree.{Tree, leaf, wrapped, back_ref, loop_one}
use Rattle.regress_program.specs.Program.{Out, At, Routine, Op, accept, fail, part, split, begin_loop, repeat, end_loop, unsets, begin_group, end_group, look, goto, enter, reach, ended, start, matcher_of, IsSolution}

-- the cost from wherever a routine is
abbrev pub Cost : Type 0
Cost = At → ℕ

-- the steps for bytes that are compared or skipped at once, or for captures that are written: one for each 64 of them
unfoldable pub blocks : (count : ℕ) → ℕ
blocks count = count / 64

-- the number of bytes from a position to where the text ends in a direction
abbrev pub bytes_ahead : Direction → (length position : ℕ) → ℕ
bytes_ahead forwards length position = length - position
bytes_ahead backwards length position = position

-- the steps for a comparison with a capture, which ends where the text ends, `ahead` bytes further: with `icase` characters
-- are compared one by one, and else all bytes at once
abbrev pub copy_cost : (icase : Bool) → (ahead : ℕ) → Option CaptureSpan → ℕ
copy_cost icase ahead None = 0
copy_cost icase ahead (Some span) = if icase then min (abs_diff span.0 span.1) ahead else blocks (min (abs_diff span.0 span.1) ahead)

-- the steps for an exact number of characters where the text ends `ahead` bytes further: one for each 64 after the first
abbrev pub characters_cost : (ahead count : ℕ) → ℕ
characters_cost ahead count = blocks (min (count - 1) ahead)

-- the steps for what a part compares, if it is a back reference or an exact number of characters
abbrev pub compared : (ahead : ℕ) → Tree → MatchState → ℕ
compared ahead (leaf (back_ref group icase)) s = copy_cost icase ahead (get_or s.captures (group - 1) None)
compared ahead (wrapped (loop_one q) body) s = characters_cost ahead q.min
compared ahead t s = 0

-- the steps for unsetting the groups start to end - 1 of this number
abbrev pub unset_cost : (start end groups : ℕ) → ℕ
unset_cost start end groups = blocks (min end groups - start)

-- the cost of what follows an instruction, from these outcomes of it: that of the bytes up to there, and the cost from there
abbrev pub cost_after : Cost → (next : ℕ) → At → List MatchState → ℕ
cost_after cost next a = sum_by (λ to. blocks (abs_diff a.state.position to.position) + cost (reach next a to))

module _ (setting : Setting) (bytes : List ℕ) where
  -- what an instruction costs besides 1, by the costs of the instructions after it, and by the matchers and the costs of
  -- the other routines
  module _ (d : Direction) (body_of : ℕ → Matcher) (body_cost : ℕ → MatchState → ℕ) (cost : Cost) where
    abbrev pub cost_by : Op → Cost
    cost_by accept a = 0
    cost_by fail a = 0
    cost_by (part t next) a = compared (bytes_ahead d (length bytes) a.state.position) t a.state + cost_after cost next a (steps setting bytes d t a.state)
    cost_by (split first second) a = cost (goto first a) + cost (goto second a)
    cost_by (begin_loop greedy body next) a = cost (enter body a) + cost (goto next a)
    cost_by (repeat greedy body next) a = if a.moved then cost (enter body a) + cost (goto next a) else 0
    cost_by (end_loop next) a = if a.moved then cost (goto next a) else 0
    cost_by (unsets start end next) a = unset_cost start end (length a.state.captures) + cost (record a { pc = next; state = unset start end a.state })
    cost_by (begin_group next) a = cost (record a { pc = next; begins = a.state.position ∷ a.begins })
    cost_by (end_group id next) a = cost (ended id next a a.begins)
    cost_by (look negate routine next) a =
        body_cost routine a.state + cost_after cost next a (lookaround_matcher negate (body_of routine) a.state)

    abbrev pub cost_at : Option Op → Cost
    cost_at None a = 0
    cost_at (Some op) a = 1 + cost_by op a

  -- the cost of a run of each routine, by the costs in each
  abbrev pub cost_of : List Routine → (ℕ → Cost) → ℕ → MatchState → ℕ
  cost_of program costs i s = costs i (start setting bytes (slice_get program i) s)

  -- Inside the text `costs` are the costs of the program, where `outs` are its outcomes.
  pub record IsCost (program : List Routine) (outs : ℕ → Out) (costs : ℕ → Cost) : Type 0 where
    pub outcomes : IsSolution setting bytes program outs
    pub same : (i : ℕ) (r : Routine) → slice_get program i ≡ Some r → (a : At) → a.pc < length r.ops →
        a.state.position ≤ length bytes → costs i a
        ≡ cost_at r.direction (matcher_of setting bytes program outs) (cost_of program costs) (costs i) (slice_get r.ops a.pc) a
