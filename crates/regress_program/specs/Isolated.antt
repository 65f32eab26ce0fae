-- Captures that a routine sets do not depend on those before it.
use Rattle.std.specs.Prelude.{◌≡◌, ℕ, List, [], ◌∷◌, length, slice_index_or, Option, None}
use Rattle.regress_tree.specs.Steps.{CaptureSpan, MatchState, Setting}
use Rattle.regress_program.specs.declared.ranges.GroupRange.{GroupRange}
use Rattle.regress_found.specs.Found.{initial_state}
use Rattle.regress_program.specs.Program.{Out, Routine, matcher_of}
use Rattle.regress_program.specs.Ranges.{IsIn}

abbrev pub Captures : Type 0
Captures = List (Option CaptureSpan)

-- the capture of a group, none if there is no such group
abbrev pub capture_at : Captures → (id : ℕ) → Option CaptureSpan
capture_at captures id = slice_index_or captures id None

-- The groups of the range are unset.
abbrev pub AreUnset : GroupRange → Captures → Type 0
AreUnset range captures = (id : ℕ) → IsIn range id → capture_at captures id ≡ None

-- the captures of the first outcome
abbrev pub first_captures : List MatchState → Captures
first_captures [] = []
first_captures (s ∷ later) = s.captures

-- the captures that a routine sets from a position, of n groups that are unset
abbrev pub captures_from : (setting : Setting) (bytes : List ℕ) (program : List Routine) (outs : ℕ → Out) (n : ℕ) → (routine position : ℕ) → Captures
captures_from setting bytes program outs n routine position =
    first_captures (matcher_of setting bytes program outs routine (initial_state n position))

-- Inside the range the captures are those of `first`, and outside of it they are as before.
pub record IsReplaced (range : GroupRange) (first before after : Captures) : Type 0 where
  pub count : length after ≡ length before
  pub inside : (id : ℕ) → IsIn range id → capture_at after id ≡ capture_at first id
  pub outside : (id : ℕ) → (IsIn range id → ⊥) → capture_at after id ≡ capture_at before id
