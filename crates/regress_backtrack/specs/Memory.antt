-- The memory of the backtrack stacks.
use Rattle.std.specs.Prelude.{ℕ, ◌≤◌, ◌/◌, All, length, vec_capacity}
use Rattle.regress_backtrack.specs.declared.cache.Cache.{Cache}
use Rattle.regress_backtrack.specs.declared.machine.Machine.{Machine}
use Rattle.regress_backtrack.specs.declared.machine.Stack.{Stack}
use Rattle.regress_backtrack.specs.declared.machine.TheConstants.{ENTRY_BYTES}

-- the number of entries for which there is room in this number of bytes
abbrev pub entries_in : (memory : ℕ) → ℕ
entries_in memory = memory / ENTRY_BYTES

-- the number of entries of the stack
abbrev pub entry_count : Machine → ℕ
entry_count m = length m.stack.entries.items

-- The stack has room for at most this number of entries.
abbrev pub IsStackWithin : (room : ℕ) → Stack → Type 0
IsStackWithin room s = vec_capacity s.entries ≤ room

-- Each stack has room for at most this number of entries, also those that are not in use.
pub record AreWithin (room : ℕ) (m : Machine) : Type 0 where
  pub stack : IsStackWithin room m.stack
  pub idle : All (IsStackWithin room) m.idle.items

-- Each backtrack stack of a cache has room for at most this number of entries.
abbrev pub IsWithin : (room : ℕ) → Cache → Type 0
IsWithin room c = AreWithin room c.machine
