-- Numbers as text.
use Rattle.std.proofs.Common.{◌≡◌, ℕ, ◌-◌, ◌^◌, false, true, [], ◌++◌, length, replicate, arith, append-nil}
use Rattle.std.proofs.lemmas.Grind.{common_steps}
use Rattle.std.specs.Fmt.{digits, padded_integral, format_spec, char_count}

-- a number padded with zeros to four digits
pub padded_to_four : (n : ℕ) → padded_integral (format_spec 32 0 4 4 (2 ^ 64 - 1)) false [] (digits 16 true n)
    ≡ replicate (4 - length (digits 16 true n)) 48 ++ digits 16 true n
unfolding padded_integral char_count
padded_to_four n = first_of (search append-nil, grind (arith, common_steps))
