-- An instruction is added.
use Rattle.std.specs.Prelude.{◌≡◌, ℕ, ◌+◌, Bool, [], ◌∷◌, ◌++◌, length, if◌then◌else◌}
use Rattle.regress_program.specs.Compiled.{Code}
use Rattle.regress_program.specs.Program.{Op, split}

-- The instruction has been added at the end, which is the index `at`.
pub record Pushed (old new : Code) (op : Op) (at : ℕ) : Type 0 where
  pub routines : new.routines ≡ old.routines
  pub ops : new.ops ≡ old.ops ++ op ∷ []
  pub left : new.left + 1 ≡ old.left
  pub at_end : at ≡ length old.ops

-- a choice: greedy, the first is preferred, otherwise the second
abbrev pub preferred : (greedy : Bool) → (first second : ℕ) → Op
preferred greedy first second = if greedy then split first second else split second first
