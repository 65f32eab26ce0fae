-- A delta and a modulo in one word: the modulo minus one in the four low bits, and the delta above them.
use Rattle.std.proofs.Common.{◌≡◌, ℕ, suc, ◌+◌, ◌-◌, ◌*◌, ◌%◌, ◌^◌, ◌<◌, ◌≤◌, ℤ, pos, negsuc, ◌≤ℤ◌, bit_or, unsigned_abs, ap, ◌∙◌, w32, to_z, of_z, arith}
use Rattle.std.proofs.lemmas.Nat.{or_shifted}
use Rattle.std.proofs.lemmas.Int.{ints}
use Rattle.std.proofs.Math.Facts.{to_z-neg}
use Rattle.std.specs.Int.{int_div_euclid, int_rem_euclid}
use Rattle.regress_unicode.specs.ValidEntries.{IsModulo}

pub IsModulo-small : (m : ℕ) → IsModulo m → (1 ≤ m) × (m ≤ 16)
IsModulo-small m h = grind (arith, h)

-- the word with a delta and a mask of four bits
abbrev pub packed : ℤ → ℕ → ℤ
packed d mask = to_z w32 (bit_or (of_z w32 d * 16 % 4294967296) mask)

packed-pos : (n mask : ℕ) → n < 2 ^ 27 → mask < 16 → packed (pos n) mask ≡ pos (n * 16 + mask)
packed-pos n mask small four =
    let fits : n * 16 % 4294967296 ≡ n * 16 = omega arith in
    let joined : bit_or (n * 16 % 4294967296) mask ≡ n * 16 + mask = ap (λ k. bit_or k mask) fits ∙ or_shifted n 4 mask four in
    ap (to_z w32) joined ∙ omega (arith, ints)

packed-negsuc : (n mask : ℕ) → n < 2 ^ 27 → mask < 16 → packed (negsuc n) mask ≡ negsuc (n * 16 + (15 - mask))
packed-negsuc n mask small four =
    let fits : of_z w32 (negsuc n) * 16 % 4294967296 ≡ (268435456 - (n + 1)) * 16 = omega arith in
    let joined : bit_or (of_z w32 (negsuc n) * 16 % 4294967296) mask ≡ (268435456 - (n + 1)) * 16 + mask =
    ap (λ k. bit_or k mask) fits ∙ or_shifted (268435456 - (n + 1)) 4 mask four in
    let high : (268435456 - (n + 1)) * 16 + mask ≡ 4294967296 - suc (n * 16 + (15 - mask)) = omega arith in
    ap (to_z w32) (joined ∙ high) ∙ to_z-neg w32 (n * 16 + (15 - mask)) (omega arith)

pub delta_of_packed : (d : ℤ) (mask : ℕ) → negsuc (2 ^ 27 - 1) ≤ℤ d → d ≤ℤ pos (2 ^ 27 - 1) → mask < 16 →
    int_div_euclid (packed d mask) (pos 16) ≡ d
delta_of_packed (pos n) mask low high four =
    let small : n < 2 ^ 27 = omega (arith, ints) in
    ap (λ z. int_div_euclid z (pos 16)) (packed-pos n mask small four) ∙ ap pos (omega arith)
delta_of_packed (negsuc n) mask low high four =
    let small : n < 2 ^ 27 = omega (arith, ints) in
    ap (λ z. int_div_euclid z (pos 16)) (packed-negsuc n mask small four) ∙ ap negsuc (omega arith)

pub mask_of_packed : (d : ℤ) (mask : ℕ) → negsuc (2 ^ 27 - 1) ≤ℤ d → d ≤ℤ pos (2 ^ 27 - 1) → mask < 16 →
    unsigned_abs (int_rem_euclid (packed d mask) (pos 16)) ≡ mask
mask_of_packed (pos n) mask low high four =
    let small : n < 2 ^ 27 = omega (arith, ints) in
    ap (λ z. unsigned_abs (int_rem_euclid z (pos 16))) (packed-pos n mask small four) ∙ omega arith
mask_of_packed (negsuc n) mask low high four =
    let small : n < 2 ^ 27 = omega (arith, ints) in
    ap (λ z. unsigned_abs (int_rem_euclid z (pos 16))) (packed-negsuc n mask small four) ∙ omega arith
