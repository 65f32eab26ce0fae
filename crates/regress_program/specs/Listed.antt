-- The instructions of a routine.
use Rattle.std.specs.Prelude.{◌≡◌, ℕ, ◌+◌, ◌≤◌, ◌<◌, ◌⊎◌, List, [], ◌∷◌, length, set, slice_get, Some}
use Rattle.regress_program.specs.Compiled.{Extends}
use Rattle.regress_program.specs.Copies.{AreCopies, NamesBelow, end_of, expanded}
use Rattle.regress_program.specs.declared.copies.Copies.{Copies}
use Rattle.regress_program.specs.declared.copies.Instructions.{Instructions}
use Rattle.regress_program.specs.declared.instruction.Instruction.{Instruction}
use Rattle.regress_program.specs.declared.instruction.Routine.{Routine}

-- all instructions, copies included, in order
unfoldable pub all_of : Instructions → List Instruction
all_of is = expanded is.stored.items is.copies.items

-- all instructions of a routine
unfoldable pub listed : Routine → List Instruction
listed r = all_of r.instructions

-- the number of stored instructions of routines
abbrev pub stored_total : List Routine → ℕ
stored_total [] = 0
stored_total (r ∷ rs) = length r.instructions.stored.items + stored_total rs

-- The instructions `all` begin with the instructions `first`.
pub record Begins (first all : List Instruction) : Type 0 where
  pub within : length first ≤ length all
  pub same : (pc : ℕ) → pc < length first → slice_get all pc ≡ slice_get first pc

-- Instructions have been added after the old ones, of which no copies have been made.
pub record Appends (old new : Instructions) : Type 0 where
  pub stored : Extends old.stored.items new.stored.items
  pub copies : Extends old.copies.items new.copies.items
  pub all : Extends (all_of old) (all_of new)
  pub apart : (j : ℕ) (r : Copies) → length old.copies.items ≤ j → slice_get new.copies.items j ≡ Some r →
      (length old.stored.items ≤ r.stored) × (length (all_of old) + r.width ≤ r.start)
  pub named : (pc : ℕ) (i : Instruction) → length (all_of old) ≤ pc → slice_get (all_of new) pc ≡ Some i → NamesBelow (length (all_of new)) i

-- The instruction with the index is not a copy, and no copies of it have been made.
abbrev pub IsAlone : Instructions → (at : ℕ) → Type 0
IsAlone is at = (j : ℕ) (r : Copies) → slice_get is.copies.items j ≡ Some r → (end_of r ≤ at) ⊎ (at + r.width < r.start)

-- Of the first `count` records of copies, the first `begun` start at the index or before, and the others after it.
pub record IsBegun (copies : List Copies) (count pc begun : ℕ) : Type 0 where
  pub within : begun ≤ count
  pub before : (j : ℕ) (r : Copies) → j < begun → slice_get copies j ≡ Some r → r.start ≤ pc
  pub after : (j : ℕ) (r : Copies) → begun ≤ j → j < count → slice_get copies j ≡ Some r → pc < r.start

-- The instruction with the index is stored at `slot`, and there are no copies of it.
pub record IsStoredAt (is : Instructions) (at slot : ℕ) : Type 0 where
  pub within : slot < length is.stored.items
  pub are : (i : Instruction) → AreCopies (set is.stored.items slot i) is.copies.items
  pub written : (i : Instruction) → expanded (set is.stored.items slot i) is.copies.items ≡ set (all_of is) at i
  pub past : (base : Instructions) → length (all_of base) ≤ at → Appends base is → length base.stored.items ≤ slot
