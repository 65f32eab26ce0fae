-- An escaped character is parsed as a literal of that character, under all flags, and begins no quantifier.
use Prim.Native.String.{String}
use Rattle.std.proofs.Common.{◌≡◌, ℕ, ◌/◌, ◌%◌, ◌<◌, ⊎_elim, Bool, true, false, ◌||◌, ◌==◌, List, [], ◌∷◌, ◌++◌, flat_map, Option, Some, None, codes, if◌then◌else◌, nat_le, refl, sym, ap, subst, append_assoc, ◌∙◌, arith}
use Rattle.std.specs.List.{list_any}
use Rattle.std.proofs.lemmas.Bool.Decides.{nat_tests}
use Rattle.std.proofs.lemmas.Bool.{cases_Bool, false≢true}
use Rattle.regress_base.specs.Intervals.{is_member, is_within}
use Rattle.regress_lexer.specs.FirstCodePoint.{may_begin}
use Rattle.regress_lexer.specs.Source.{Source, found_map, char, is_plain}
use Rattle.regress_lexer.specs.Digits.{is_between, is_decimal, is_letter}
use Rattle.regress_lexer.specs.Escapes.{is_syntax_character, escape_at}
use Rattle.regress_syntax.specs.Syntax.{literal}
use Rattle.regress_syntax.specs.Productions.{Context, single, head_at}
use Rattle.regress_syntax.proofs.lemmas.Plain.{plain_head}
use Rattle.regress_escape.specs.Escape.{numeric_escape, control_letter, is_other_punctuator, is_space, encoded_by, encoded, encoded_first}
use Rattle.regress_escape.proofs.lemmas.Numeric.{hex_digit_no_brace, two_digits, four_digits_alone, x_head, u_head}

-- one of two values, each under its condition
by_cases : {A : Type 0} (P : A → Type 0) (b : Bool) (x y : A) → (b ≡ true → P x) → (b ≡ false → P y) → P (if b then x else y)
by_cases P true x y first second = first refl
by_cases P false x y first second = second refl

same : (c k : ℕ) → (c == k) ≡ true → c ≡ k
same c k e = grind (arith, nat_tests)

-- what holds of each of these numbers
abbrev Each : (ℕ → Type 0) → List ℕ → Type 0
Each P [] = Unit {0}
Each P (d ∷ ds) = P d × Each P ds

each : (P : ℕ → Type 0) (c : ℕ) (ds : List ℕ) → Each P ds → list_any (λ d. d == c) ds ≡ true → P c
each P c [] all e = absurd (false≢true e)
each P c (d ∷ ds) all e =
    ⊎_elim (λ yes. subst P (same d c yes) all.0)
    (λ no. each P c ds all.1 (sym (ap (λ b. b || list_any (λ d. d == c) ds) no) ∙ e)) (cases_Bool (d == c))

-- ---- kinds of characters

syntax_plain : (c : ℕ) → is_syntax_character c ≡ false → is_plain c ≡ true
syntax_plain c e = grind (arith, nat_tests)

punctuator_low : (c : ℕ) → is_other_punctuator c ≡ true → c < 0x80
punctuator_low c e = grind (arith, nat_tests)

space_low : (c : ℕ) → is_space c ≡ true → c < 0x10000
unfolding is_member is_within
space_low c e = grind (arith, nat_tests)

space_no_surrogate : (c : ℕ) → is_space c ≡ true → is_between 0xD800 0xDBFF c ≡ false
unfolding is_member is_within
space_no_surrogate c e = grind (arith, nat_tests)

alphanumeric_low : (c : ℕ) → (is_decimal c || is_letter c) ≡ true → c < 0x80
alphanumeric_low c e = grind (arith, nat_tests)

low_no_surrogate : (c : ℕ) → c < 0x80 → is_between 0xD800 0xDBFF c ≡ false
low_no_surrogate c below = grind (arith, nat_tests)

abbrev syntax_characters : String
syntax_characters = "^$\\.*+?()[]{}|/"

-- A backslash makes a syntax character literal, with the flag u and without it.
syntax_escape : (unicode : Bool) (c : ℕ) (t : Source) → is_syntax_character c ≡ true → escape_at unicode (c ∷ t) ≡ Some (c, t)
unfolding escape_at
syntax_escape true c t e =
    each (λ d. escape_at true (d ∷ t) ≡ Some (d, t)) c (codes syntax_characters)
    (refl, (refl, (refl, (refl, (refl, (refl, (refl, (refl, (refl, (refl, (refl, (refl, (refl, (refl, (refl, tt))))))))))))))) e
syntax_escape false c t e =
    each (λ d. escape_at false (d ∷ t) ≡ Some (d, t)) c (codes syntax_characters)
    (refl, (refl, (refl, (refl, (refl, (refl, (refl, (refl, (refl, (refl, (refl, (refl, (refl, (refl, (refl, tt))))))))))))))) e

module _ (ctx : Context) where
  -- the source starts with a literal of this character, and `rest` follows it
  abbrev pub IsLiteral : ℕ → Source → Source → Type 0
  IsLiteral c t rest = head_at ctx t ≡ Some (single (literal ctx.setting.flags c), rest)

  numeric_literal : (c : ℕ) (t : Source) → c < 0x10000 → is_between 0xD800 0xDBFF c ≡ false → IsLiteral c (numeric_escape c ++ t) t
  numeric_literal c t below single_unit =
      by_cases (λ written. IsLiteral c (written ++ t) t) (nat_le c 0xFF) _ _
      (λ short. x_head ctx _ c t (two_digits c t (grind (arith, nat_tests))))
      (λ long. u_head ctx _ c t (hex_digit_no_brace (c / 16 / 16 / 16 % 16) (omega arith)) (four_digits_alone c t below single_unit))

  syntax_head : (c : ℕ) (t : Source) → is_syntax_character c ≡ true →
      head_at ctx (char "\\" ∷ c ∷ t) ≡ found_map single (found_map (literal ctx.setting.flags) (escape_at ctx.setting.flags.unicode (c ∷ t)))
  unfolding head_at
  syntax_head c t e =
      each
      (λ d. head_at ctx (char "\\" ∷ d ∷ t) ≡ found_map single (found_map (literal ctx.setting.flags) (escape_at ctx.setting.flags.unicode (d ∷ t))))
      c (codes syntax_characters) (refl, (refl, (refl, (refl, (refl, (refl, (refl, (refl, (refl, (refl, (refl, (refl, (refl, (refl, (refl, tt))))))))))))))) e

  syntax_literal : (c : ℕ) (t : Source) → is_syntax_character c ≡ true → IsLiteral c (char "\\" ∷ c ∷ t) t
  syntax_literal c t e =
      syntax_head c t e ∙ ap (λ found. found_map single (found_map (literal ctx.setting.flags) found)) (syntax_escape ctx.setting.flags.unicode c t e)

  -- a character by the letter of its control escape
  abbrev IsControl : Source → ℕ → Option ℕ → Type 0
  IsControl t c None = Unit {0}
  IsControl t c (Some letter) = IsLiteral c (char "\\" ∷ letter ∷ t) t

  one_control : (t : Source) (c k : ℕ) (x y : Option ℕ) → IsControl t k x → IsControl t c y → IsControl t c (if c == k then x else y)
  one_control t c k x y here there =
      by_cases (λ o. IsControl t c o) (c == k) x y (λ e. subst (λ (m : ℕ). IsControl t m x) (sym (same c k e)) here) (λ e. there)

  control_literal : (c : ℕ) (t : Source) → IsControl t c (control_letter c)
  unfolding head_at escape_at
  control_literal c t =
      one_control t c 0x9 (Some (char "t")) _ refl (one_control t c 0xA (Some (char "n")) _ refl (one_control t c 0xB (Some (char "v")) _ refl
      (one_control t c 0xC (Some (char "f")) _ refl (one_control t c 0xD (Some (char "r")) None refl tt))))

  encoded_by_literal : (o : Option ℕ) (c : ℕ) (t : Source) → IsControl t c o → is_syntax_character c ≡ false → IsLiteral c (encoded_by o c ++ t) t
  encoded_by_literal (Some letter) c t control e = control
  encoded_by_literal None c t control e =
      by_cases (λ written. IsLiteral c (written ++ t) t) (is_other_punctuator c || is_space c) _ _
      (λ named. numeric_literal c t (low named) (single_unit named))
      (λ plain. plain_head ctx c t (syntax_plain c e))
    where
      low : (is_other_punctuator c || is_space c) ≡ true → c < 0x10000
      low named = ⊎_elim (λ yes. let below = punctuator_low c yes in omega arith) (λ other. space_low c (sym (ap (λ b. b || is_space c) other) ∙ named))
          (cases_Bool (is_other_punctuator c))

      single_unit : (is_other_punctuator c || is_space c) ≡ true → is_between 0xD800 0xDBFF c ≡ false
      single_unit named =
          ⊎_elim (λ yes. low_no_surrogate c (punctuator_low c yes))
          (λ other. space_no_surrogate c (sym (ap (λ b. b || is_space c) other) ∙ named)) (cases_Bool (is_other_punctuator c))

  pub encoded_literal : (c : ℕ) (t : Source) → IsLiteral c (encoded c ++ t) t
  encoded_literal c t =
      by_cases (λ written. IsLiteral c (written ++ t) t) (is_syntax_character c) _ _
      (syntax_literal c t) (encoded_by_literal (control_letter c) c t (control_literal c t))

  pub first_literal : (c : ℕ) (t : Source) → IsLiteral c (encoded_first c ++ t) t
  first_literal c t =
      by_cases (λ written. IsLiteral c (written ++ t) t) (is_decimal c || is_letter c) _ _
      (λ low. numeric_literal c t (let below = alphanumeric_low c low in omega arith) (low_no_surrogate c (alphanumeric_low c low)))
      (λ other. encoded_literal c t)

-- ---- No quantifier begins with an escaped character.

numeric_begins : (c : ℕ) (t : Source) → may_begin (numeric_escape c ++ t) ≡ false
numeric_begins c t = by_cases (λ written. may_begin (written ++ t) ≡ false) (nat_le c 0xFF) _ _ (λ e. refl) (λ e. refl)

syntax_begins : (c : ℕ) (t : Source) → is_syntax_character c ≡ false → may_begin (c ∷ t) ≡ false
syntax_begins c t e = grind (arith, nat_tests)

encoded_by_begins : (o : Option ℕ) (c : ℕ) (t : Source) → is_syntax_character c ≡ false → may_begin (encoded_by o c ++ t) ≡ false
encoded_by_begins (Some letter) c t e = refl
encoded_by_begins None c t e =
    by_cases (λ written. may_begin (written ++ t) ≡ false) (is_other_punctuator c || is_space c) _ _ (λ yes. numeric_begins c t) (λ other. syntax_begins c t e)

encoded_begins : (c : ℕ) (t : Source) → may_begin (encoded c ++ t) ≡ false
encoded_begins c t =
    by_cases (λ written. may_begin (written ++ t) ≡ false) (is_syntax_character c) _ _ (λ e. refl) (encoded_by_begins (control_letter c) c t)

pub all_begin : (cs : List ℕ) (t : Source) → may_begin t ≡ false → may_begin (flat_map encoded cs ++ t) ≡ false
all_begin [] t e = e
all_begin (c ∷ cs) t e = rw append_assoc (encoded_begins c (flat_map encoded cs ++ t))
