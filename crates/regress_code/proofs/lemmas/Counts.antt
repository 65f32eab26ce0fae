-- The count for a byte.
use Rattle.std.proofs.Common.{◌≡◌, ℕ, zero, suc, ◌<◌, List, [], ◌∷◌, get_or, slice_get, Some, refl, arith}
use Rattle.regress_code.specs.declared.next_bytes.NextBytes.{NextBytes}
use Rattle.regress_program.specs.declared.instruction.Instruction.{Instruction}
use Rattle.regress_code.specs.Skips.{AreCounts, AreSkipped}

pub got : (xs : List ℕ) (b i : ℕ) → i < get_or xs b 0 → slice_get xs b ≡ Some (get_or xs b 0)
got [] b i lt = let bad : ⊥ = omega (arith, lt) in absurd bad
got (x ∷ xs) zero i lt = refl
got (x ∷ xs) (suc b) i lt = got xs b i lt

-- what is skipped by the count for a byte, or by 0 without one
pub counted : (next_bytes : List NextBytes) (instructions : List Instruction) (pc : ℕ) (counts : List ℕ) → AreCounts next_bytes instructions pc counts → (b : ℕ) →
    AreSkipped next_bytes instructions b pc (get_or counts b 0)
counted next_bytes instructions pc counts are b = λ j lt. are b (get_or counts b 0) (got counts b j lt) j lt
