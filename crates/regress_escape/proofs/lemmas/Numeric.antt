-- An escape by the code of a character is parsed to that character, under all flags.
use Rattle.std.proofs.Common.{◌≡◌, ℕ, ◌/◌, ◌%◌, ◌<◌, true, false, not, ◌==◌, ◌∷◌, ◌++◌, Some, ap, ◌∙◌, arith}
use Rattle.std.specs.Char.{digit_char}
use Rattle.std.proofs.lemmas.Bool.Decides.{nat_tests}
use Rattle.std.proofs.lemmas.Bool.{cond-false, and_right}
use Rattle.regress_lexer.specs.Source.{Source, found_map, char, is_at, ◌>>=◌}
use Rattle.regress_lexer.specs.Dialects.{has_braces}
use Rattle.regress_lexer.specs.Digits.{is_hex, is_between, digit, hex_at}
use Rattle.regress_lexer.specs.Escapes.{escape_at, unicode_at, or_identity_escape, with_trail_surrogate}
use Rattle.regress_syntax.specs.Syntax.{literal}
use Rattle.regress_syntax.specs.Productions.{Context, single, head_at}
use Rattle.regress_escape.specs.Escape.{hex_digits}

-- ---- digits

hex_digit : (d : ℕ) → d < 16 → is_hex (digit_char d) ≡ true
hex_digit d below = grind (arith, nat_tests)

hex_digit_value : (d : ℕ) → d < 16 → digit (digit_char d) ≡ d
hex_digit_value d below = grind (arith, nat_tests)

pub hex_digit_no_brace : (d : ℕ) → d < 16 → (digit_char d == char "{") ≡ false
hex_digit_no_brace d below = grind (arith, nat_tests)

pub two_digits : (c : ℕ) (t : Source) → c < 0x100 → hex_at 2 (hex_digits 2 c ++ t) ≡ Some (c, t)
two_digits c t below =
    let high = c / 16 % 16 in
    let low = c % 16 in
    rw (hex_digit high (omega arith), hex_digit low (omega arith), hex_digit_value high (omega arith), hex_digit_value low (omega arith))
    (ap (λ x. Some (x, t)) (omega arith))

four_digits : (c : ℕ) (t : Source) → c < 0x10000 → hex_at 4 (hex_digits 4 c ++ t) ≡ Some (c, t)
four_digits c t below =
    let first = c / 16 / 16 / 16 % 16 in
    let second = c / 16 / 16 % 16 in
    let third = c / 16 % 16 in
    let fourth = c % 16 in
    rw (
      hex_digit first (omega arith),
      hex_digit second (omega arith),
      hex_digit third (omega arith),
      hex_digit fourth (omega arith),
      hex_digit_value first (omega arith),
      hex_digit_value second (omega arith),
      hex_digit_value third (omega arith),
      hex_digit_value fourth (omega arith),
    )
    (ap (λ x. Some (x, t)) (omega arith))

-- Four digits that are no leading surrogate are not combined with what follows.
pub four_digits_alone : (c : ℕ) (t : Source) → c < 0x10000 → is_between 0xD800 0xDBFF c ≡ false → unicode_at (hex_digits 4 c ++ t) ≡ Some (c, t)
unfolding unicode_at
four_digits_alone c t below no_surrogate =
    cond-false _ _ _ (hex_digit_no_brace (c / 16 / 16 / 16 % 16) (omega arith))
    ∙ ap (λ found. found >>= with_trail_surrogate) (four_digits c t below) ∙ cond-false _ _ _ no_surrogate

-- ---- escapes

module _ (ctx : Context) (t : Source) (c : ℕ) (rest : Source) where
  pub x_head : hex_at 2 t ≡ Some (c, rest) → head_at ctx (char "\\" ∷ char "x" ∷ t) ≡ Some (single (literal ctx.setting.flags c), rest)
  unfolding head_at escape_at
  x_head e =
      ap (λ found. found_map single (found_map (literal ctx.setting.flags) (or_identity_escape ctx.setting.flags.unicode (char "x") t found))) e

  pub u_head : is_at (char "{") t ≡ false → unicode_at t ≡ Some (c, rest) →
      head_at ctx (char "\\" ∷ char "u" ∷ t) ≡ Some (single (literal ctx.setting.flags c), rest)
  unfolding head_at escape_at
  u_head plain e =
      ap (λ found. found_map single (found_map (literal ctx.setting.flags) found))
      (cond-false _ _ _ (and_right (not (has_braces ctx.dialect ctx.setting.flags.unicode)) (is_at (char "{") t) plain))
      ∙ ap (λ found. found_map single (found_map (literal ctx.setting.flags) (or_identity_escape ctx.setting.flags.unicode (char "u") t found))) e
