-- The counts of choices that are skipped.
use Rattle.std.proofs.Common.{◌≡◌, ℕ, zero, suc, ◌+◌, ◌-◌, ◌≤◌, ◌<◌, true, false, List, get_or, slice_get, Some, subst, arith}
use Rattle.regress_base.specs.ByteBitmap.{contains}
use Rattle.regress_base.specs.declared.bytesearch.bitmap.ByteBitmap.{ByteBitmap}
use Rattle.regress_code.specs.declared.next_bytes.NextBytes.{NextBytes}
use Rattle.regress_program.specs.declared.instruction.Instruction.{Instruction}
use Rattle.regress_code.specs.Skips.{AreCounts, IsPreferred, is_skipped}
use Rattle.regress_code.proofs.lemmas.Counts.{got}

module _ (next_bytes : List NextBytes) (instructions : List Instruction) (pc : ℕ) (set : ByteBitmap) (preferred : IsPreferred next_bytes pc (slice_get instructions pc) set)
    (before : List ℕ) (counted : AreCounts next_bytes instructions (pc - 1) before) (b : ℕ) (n : ℕ) (out : contains set b ≡ false) (le : n ≤ get_or before b 0 + 1) where
  skipped_at : (j : ℕ) → j < n → is_skipped next_bytes b (pc - j) (slice_get instructions (pc - j)) ≡ true
  skipped_at zero lt = subst (λ k. is_skipped next_bytes b k (slice_get instructions k) ≡ true) (omega arith) (preferred b out)
  skipped_at (suc i) lt =
      let less : i < get_or before b 0 = omega (arith, lt, le) in
      let number : (pc - 1) - i ≡ pc - suc i = omega arith in
      subst (λ k. is_skipped next_bytes b k (slice_get instructions k) ≡ true) number (counted b (get_or before b 0) (got before b i less) i less)

pub more_counts : (next_bytes : List NextBytes) (instructions : List Instruction) (pc : ℕ) (set : ByteBitmap) → IsPreferred next_bytes pc (slice_get instructions pc) set →
    (before counts : List ℕ) → AreCounts next_bytes instructions (pc - 1) before →
    ((b n : ℕ) → slice_get counts b ≡ Some n → 0 < n → (contains set b ≡ false) × (n ≤ get_or before b 0 + 1)) → AreCounts next_bytes instructions pc counts
more_counts next_bytes instructions pc set preferred before counts counted are = λ b n is j lt.
    let more = are b n is (omega (arith, lt)) in
    skipped_at next_bytes instructions pc set preferred before counted b n more.0 more.1 j lt
