-- Entries of case mappings that pass a test can be packed.
use Rattle.std.proofs.Common.{◌≡◌, ℤ, pos, negsuc, ◌+◌, ◌^◌, ◌<◌, ◌≤ℤ◌, ◌⊎◌, inl, inr, Bool, true, ◌&&◌, ◌||◌, ◌==◌, nat_le, nat_lt, arith, ◌-◌}
use Rattle.std.proofs.lemmas.Bool.Decides.{nat_tests}
use Rattle.std.proofs.lemmas.Int.{ints}
use Rattle.regress_unicode.specs.FoldEntries.{FoldEntry}
use Rattle.regress_unicode.specs.ValidEntries.{IsPackableEntry}

-- the absolute value of the delta is below 2 ^ 27
abbrev pub is_short : ℤ → Bool
is_short (pos n) = nat_lt n (2 ^ 27)
is_short (negsuc n) = nat_lt n (2 ^ 27)

abbrev pub is_packable : FoldEntry → Bool
is_packable mapping =
    (nat_le 1 mapping.length && nat_le mapping.length 4096) && (nat_lt (mapping.start + mapping.length) (2 ^ 20) &&
    (is_short mapping.delta && (mapping.modulo == 1 || mapping.modulo == 2)))

short_low : (d : ℤ) → is_short d ≡ true → negsuc (2 ^ 27 - 1) ≤ℤ d
short_low (pos n) h = omega (arith, ints)
short_low (negsuc n) h = let lt : n < 2 ^ 27 = grind (arith, nat_tests, h) in omega (arith, ints, lt)

short_high : (d : ℤ) → is_short d ≡ true → d ≤ℤ pos (2 ^ 27 - 1)
short_high (pos n) h = let lt : n < 2 ^ 27 = grind (arith, nat_tests, h) in omega (arith, ints, lt)
short_high (negsuc n) h = omega (arith, ints)

pub packable : (mapping : FoldEntry) → is_packable mapping ≡ true → IsPackableEntry mapping
packable mapping h =
    let short : is_short mapping.delta ≡ true = grind (arith, nat_tests, h) in
    let modulo : (mapping.modulo ≡ 1) ⊎ (mapping.modulo ≡ 2) = grind (arith, nat_tests, h) in
    record {
      span = record {
        nonempty = grind (arith, nat_tests, h);
        short = grind (arith, nat_tests, h);
        low = grind (arith, nat_tests, h);
      };
      delta_low = short_low mapping.delta short;
      delta_high = short_high mapping.delta short;
      modulo = elim modulo [ inl one ↦ inl one | inr two ↦ inr (inl two) ];
    }
