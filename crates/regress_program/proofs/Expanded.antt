-- Records of copies, and the stored instructions before and after them.
use Rattle.std.specs.Prelude.{◌≡◌, ℕ, suc, ◌≤◌, List, slice_get, Some}
use Rattle.regress_program.specs.declared.copies.Copies.{Copies}
use Rattle.regress_program.specs.declared.instruction.Instruction.{Instruction}

module _ (stored : List Instruction) (copies : List Copies) where
  -- The last of the first j records comes within the first k stored instructions.
  abbrev pub IsAfter : (j k : ℕ) → Type 0
  IsAfter j k = (i : ℕ) (s : Copies) → suc i ≡ j → slice_get copies i ≡ Some s → s.stored ≤ k
