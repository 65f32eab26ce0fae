-- Many bits at once.
use Rattle.std.proofs.Common.{◌≡◌, ℕ, ◌+◌, ◌-◌, ◌*◌, ◌/◌, ◌%◌, ◌^◌, ◌<◌, ◌≤◌, ◌==◌, max, min, false, List, get_or, sym, ap, ap₂, ◌∙◌, arith}
use Rattle.std.specs.Int.{bit_at}
use Rattle.std.specs.Int.Bits.{bit_and, bit_or}
use Rattle.std.proofs.Math.Nat.{div-add-mod, mul_comm}
use Rattle.std.proofs.lemmas.Nat.{pow_pos, shl_whole, shr-shr}
use Rattle.std.proofs.lemmas.Nat.Bits.{bit_at-lt, bit_at-zero, bit_at_above, bit_at_and, bit_at_cat_high, bit_at_cat_low, bit_at_ones, bit_at_or}
use Rattle.regress_tables.specs.Bits.{bit_of, bits_of}
use Rattle.regress_tables.specs.declared.bits.Bits.{Bits}
use Rattle.regress_tables.proofs.BitLemmas.{get_or-first_bits}

mod_bit : (n w i : ℕ) → i < w → bit_at (n % 2 ^ w) i ≡ bit_at n i
mod_bit n w i lt =
    sym (bit_at_cat_low (n / 2 ^ w) w (n % 2 ^ w) i lt)
    ∙ ap (λ m. bit_at m i) (ap (λ m. m + n % 2 ^ w) (mul_comm (n / 2 ^ w) (2 ^ w)) ∙ div-add-mod n (2 ^ w))

shifted : (high at i : ℕ) → i < 64 → bit_at (high * 2 ^ at % 2 ^ 64) i ≡ bit_at (high * 2 ^ at + 0) i
shifted high at i lt = mod_bit (high * 2 ^ at) 64 i lt ∙ ap (λ m. bit_at m i) (let h : high * 2 ^ at ≡ high * 2 ^ at + 0 = omega arith in h)

pub one_at : (at : ℕ) → at < 64 → 1 * 2 ^ at % 2 ^ 64 ≡ 2 ^ at
one_at at lt = shl_whole 1 1 at 64 (omega arith) (omega (arith, lt)) ∙ (let h : 1 * 2 ^ at ≡ 2 ^ at = omega arith in h)

-- the first bits of a word
pub masked_bit : (word count i : ℕ) → i < count → bit_at (bit_and word (2 ^ count - 1)) i ≡ bit_at word i
masked_bit word count i lt =
    bit_at_and word (2 ^ count - 1) i ∙ ap (min (bit_at word i)) (bit_at_ones count i lt) ∙ (let b = bit_at-lt word i in omega (arith, b))

module _ (word next at i : ℕ) where
  pub joined-near : at + i < 64 → i < 64 → bit_at (bit_or (word / 2 ^ at) (next * 2 ^ (64 - at) % 2 ^ 64)) i ≡ bit_at word (at + i)
  joined-near near lt =
      let zero_is : bit_at (next * 2 ^ (64 - at) % 2 ^ 64) i ≡ 0 =
      shifted next (64 - at) i lt ∙ bit_at_cat_low next (64 - at) 0 i (omega (arith, near)) ∙ bit_at-zero i in
      bit_at_or (word / 2 ^ at) (next * 2 ^ (64 - at) % 2 ^ 64) i ∙ ap (max (bit_at (word / 2 ^ at) i)) zero_is ∙ omega arith
      ∙ ap (λ x. x % 2) (shr-shr word at i)

  pub joined-far : word < 2 ^ 64 → at < 64 → i < 64 → 64 ≤ at + i → bit_at (bit_or (word / 2 ^ at) (next * 2 ^ (64 - at) % 2 ^ 64)) i ≡ bit_at next (at + i - 64)
  joined-far small inside lt far =
      let zero_is : bit_at (word / 2 ^ at) i ≡ 0 = ap (λ x. x % 2) (shr-shr word at i) ∙ bit_at_above word 64 (at + i) small far in
      let high : bit_at (next * 2 ^ (64 - at) % 2 ^ 64) i ≡ bit_at next (i - (64 - at)) =
      shifted next (64 - at) i lt ∙ bit_at_cat_high next (64 - at) 0 i (pow_pos (64 - at)) (omega (arith, far)) in
      bit_at_or (word / 2 ^ at) (next * 2 ^ (64 - at) % 2 ^ 64) i ∙ ap₂ max zero_is high ∙ omega arith
      ∙ ap (bit_at next) (let h : i - (64 - at) ≡ at + i - 64 = omega (arith, far, inside) in h)

-- a bit of the word of an index, or of the next one
pub bit-near : (words : List ℕ) (index i : ℕ) → index % 64 + i < 64 → bit_of words (index + i) ≡ (bit_at (get_or words (index / 64) 0) (index % 64 + i) == 1)
bit-near words index i near =
    let word : (index + i) / 64 ≡ index / 64 = omega (arith, near) in
    let offset : (index + i) % 64 ≡ index % 64 + i = omega (arith, near) in
    ap₂ (λ x y. bit_at (get_or words x 0) y == 1) word offset

pub bit-far : (words : List ℕ) (index i : ℕ) → i < 64 → 64 ≤ index % 64 + i →
    bit_of words (index + i) ≡ (bit_at (get_or words (index / 64 + 1) 0) (index % 64 + i - 64) == 1)
bit-far words index i lt far =
    let word : (index + i) / 64 ≡ index / 64 + 1 = omega (arith, lt, far) in
    let offset : (index + i) % 64 ≡ index % 64 + i - 64 = omega (arith, lt, far) in
    ap₂ (λ x y. bit_at (get_or words x 0) y == 1) word offset

pub bit-in : (b : Bits) (k : ℕ) → k < b.len → get_or (bits_of b) k false ≡ bit_of b.words.items k
unfolding bits_of
bit-in b k lt = get_or-first_bits b.words.items b.len k false lt
