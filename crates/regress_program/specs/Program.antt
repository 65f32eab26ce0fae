-- Programs: what the instructions do, and what a program matches.
use Rattle.std.specs.Prelude.{◌≡◌, ℕ, ◌≤◌, ◌<◌, ◌==◌, Bool, true, false, not, ◌||◌, List, [], ◌∷◌, ◌++◌, flat_map, length, slice_get, Option, Some, None, if◌then◌else◌}
use Rattle.regress_tree.specs.Lookaround.{lookaround_matcher}
use Rattle.regress_tree.specs.Matching.{steps}
use Rattle.regress_tree.specs.Reading.{Direction}
use Rattle.regress_tree.specs.Repetition.{unset}
use Rattle.regress_tree.specs.Steps.{MatchState, Matcher, captured, Setting}
use Rattle.regress_tree.specs.Tree.{Tree}

-- An instruction as plain data. It names the instructions after it by their indices.
pub data Op : Type 0 where
  -- a match of the routine ends here
  accept : Op
  fail : Op
  -- a part of the tree with at most one outcome, which sets no group
  part : (t : Tree) (next : ℕ) → Op
  -- the first is preferred
  split : (first second : ℕ) → Op
  -- Optional iterations begin: one more is tried, or what follows them. Greedy, the iteration is preferred.
  begin_loop : (greedy : Bool) (body next : ℕ) → Op
  -- An iteration ends, and fails unless it has advanced. One more is tried, or what follows.
  repeat : (greedy : Bool) (body next : ℕ) → Op
  -- The last iteration that the maximum allows ends, and fails unless it has advanced.
  end_loop : (next : ℕ) → Op
  -- an iteration begins, and unsets the groups start to end - 1
  unsets : (start end next : ℕ) → Op
  -- a capture group begins, and ends
  begin_group : (next : ℕ) → Op
  end_group : (id next : ℕ) → Op
  -- a lookaround, whose body is another routine
  look : (negate : Bool) (routine next : ℕ) → Op

-- Instructions that match in one direction: the pattern, or the body of a lookaround.
pub record Routine : Type 0 where
  pub ops : List Op
  pub entry : ℕ
  pub direction : Direction

-- Where a routine is: the instruction, whether the innermost open iteration has advanced, the state, and where the open
-- groups began, the innermost first.
pub record At : Type 0 where
  pub pc : ℕ
  pub moved : Bool
  pub state : MatchState
  pub begins : List ℕ

-- the outcomes from wherever a routine is
abbrev pub Out : Type 0
Out = At → List MatchState

-- at another instruction
abbrev pub goto : ℕ → At → At
goto pc a = record a { pc = pc }

-- at another instruction, at the start of an iteration
abbrev pub enter : ℕ → At → At
enter pc a = record a { pc = pc; moved = false }

-- on from an outcome of an instruction
abbrev pub reach : ℕ → At → MatchState → At
reach pc a t = record a { pc = pc; moved = a.moved || not (t.position == a.state.position); state = t }

-- one more iteration, or what follows
abbrev pub either : Out → (greedy : Bool) → At → At → List MatchState
either out greedy body next = if greedy then out body ++ out next else out next ++ out body

-- at the end of a group that began at the innermost position
abbrev pub ended : (id next : ℕ) → At → List ℕ → At
ended id next a [] = record a { pc = next; state = captured id a.state.position a.state }
ended id next a (from ∷ begins) = record a { pc = next; state = captured id from a.state; begins = begins }

module _ (setting : Setting) (bytes : List ℕ) where
  -- the outcomes of an instruction, by those of the instructions after it and by the matchers of the other routines
  module _ (d : Direction) (body_of : ℕ → Matcher) (out : Out) where
    abbrev pub outcomes_by : Op → Out
    outcomes_by accept a = a.state ∷ []
    outcomes_by fail a = []
    outcomes_by (part t next) a = flat_map (λ to. out (reach next a to)) (steps setting bytes d t a.state)
    outcomes_by (split first second) a = out (goto first a) ++ out (goto second a)
    outcomes_by (begin_loop greedy body next) a = either out greedy (enter body a) (goto next a)
    outcomes_by (repeat greedy body next) a = if a.moved then either out greedy (enter body a) (goto next a) else []
    outcomes_by (end_loop next) a = if a.moved then out (goto next a) else []
    outcomes_by (unsets start end next) a = out (record a { pc = next; state = unset start end a.state })
    outcomes_by (begin_group next) a = out (record a { pc = next; begins = a.state.position ∷ a.begins })
    outcomes_by (end_group id next) a = out (ended id next a a.begins)
    outcomes_by (look negate routine next) a =
        flat_map (λ to. out (reach next a to)) (lookaround_matcher negate (body_of routine) a.state)

    abbrev pub outcomes_at : Option Op → Out
    outcomes_at None a = []
    outcomes_at (Some op) a = outcomes_by op a

    -- Inside the text, the outcomes at the instructions from `low` on and before `high` are those of what follows.
    abbrev pub Solves : List Op → (low high : ℕ) → Type 0
    Solves ops low high = (a : At) → low ≤ a.pc → a.pc < high → a.state.position ≤ length bytes →
        out a ≡ outcomes_at (slice_get ops a.pc) a

  -- where a routine starts
  abbrev pub start : Option Routine → MatchState → At
  start None s = record { pc = 0; moved = true; state = s; begins = [] }
  start (Some r) s = record { pc = r.entry; moved = true; state = s; begins = [] }

  -- the matcher of each routine, by the outcomes in each
  abbrev pub matcher_of : List Routine → (ℕ → Out) → ℕ → Matcher
  matcher_of program outs i s = outs i (start (slice_get program i) s)

  -- `outs` are the outcomes of the program: they solve the equations of each routine.
  abbrev pub IsSolution : List Routine → (ℕ → Out) → Type 0
  IsSolution program outs = (i : ℕ) (r : Routine) → slice_get program i ≡ Some r →
      Solves r.direction (matcher_of program outs) (outs i) r.ops 0 (length r.ops)

  -- The routine i of the program matches what the tree matches.
  abbrev pub MatchesTree : List Routine → ℕ → Direction → Tree → Type 0
  MatchesTree program i d t = (outs : ℕ → Out) → IsSolution program outs → (s : MatchState) → s.position ≤ length bytes →
      matcher_of program outs i s ≡ steps setting bytes d t s
