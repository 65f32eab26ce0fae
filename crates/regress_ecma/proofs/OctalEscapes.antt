-- The octal digits of an escape are those that LegacyOctalEscapeSequence of ECMA-262 derives.
use Rattle.std.proofs.Common.{◌≡◌, ℕ, ◌==◌, Bool, true, false, not, ◌&&◌, nat_le, [], ◌∷◌, length, take, drop, Some, None, if◌then◌else◌, refl, sym, arith}
use Rattle.std.proofs.lemmas.Bool.Decides.{nat_tests}
use Rattle.regress_lexer.specs.Source.{Source, Found, char, is_one_of}
use Rattle.regress_lexer.specs.Digits.{is_between, is_decimal, is_octal, number, front}
use Rattle.regress_lexer.specs.Escapes.{octal_digits, begins_with_digit}
use Rattle.regress_ecma.specs.CharacterEscapes.{first_of, legacy_octal_escape}
use Rattle.regress_ecma.proofs.EscapesWithU.{at_character}

-- what the digits denote, and what remains
abbrev pub octal_found : (c : ℕ) (t digits : Source) → Found ℕ
octal_found c t digits = Some (number 8 digits, drop (length digits) (c ∷ t))

-- A first digit that is not 0.
not_zero : (c : ℕ) → is_octal c ≡ true → (c == char "0") ≡ false → is_between (char "1") (char "7") c ≡ true
not_zero c octal other = grind (arith, nat_tests)

low_digit : (c : ℕ) → is_octal c ≡ true → is_between (char "0") (char "3") c ≡ nat_le c (char "3")
low_digit c octal = grind (arith, nat_tests)

high_digit : (c : ℕ) → is_octal c ≡ true → is_between (char "4") (char "7") c ≡ not (nat_le c (char "3"))
high_digit c octal = grind (arith, nat_tests)

eight_or_nine : (d : ℕ) → is_decimal d ≡ true → is_one_of "89" d ≡ not (is_octal d)
eight_or_nine d decimal = grind (arith, nat_tests)

no_digit_1 : (c : ℕ) → is_octal c ≡ false → is_between (char "1") (char "7") c ≡ false
no_digit_1 c none = grind (arith, nat_tests)

no_digit_3 : (c : ℕ) → is_octal c ≡ false → is_between (char "0") (char "3") c ≡ false
no_digit_3 c none = grind (arith, nat_tests)

no_digit_4 : (c : ℕ) → is_octal c ≡ false → is_between (char "4") (char "7") c ≡ false
no_digit_4 c none = grind (arith, nat_tests)

no_digit_first : (c : ℕ) → is_octal c ≡ false → (c == char "0") ≡ false
no_digit_first c none = grind (arith, nat_tests)

decimal_of : (b : Bool) → not b ≡ false → b ≡ true
decimal_of true e = refl
decimal_of false e = sym e

and_true_false : (b : Bool) → (b && true) ≡ false → b ≡ false
and_true_false true e = e
and_true_false false e = refl

-- ---- the digits

digits_of_one : (c : ℕ) → is_octal c ≡ true → (a : Bool) → front is_octal (take (if a then 3 else 2) (c ∷ [])) ≡ c ∷ []
unfolding front
digits_of_one c octal true = rw octal refl
digits_of_one c octal false = rw octal refl

digits_of_two : (c d : ℕ) → is_octal c ≡ true → (a : Bool) →
    front is_octal (take (if a then 3 else 2) (c ∷ d ∷ [])) ≡ c ∷ (if is_octal d then d ∷ [] else [])
unfolding front
digits_of_two c d octal true = rw octal refl
digits_of_two c d octal false = rw octal refl

abbrev third : (a oe : Bool) → (e : ℕ) → Source
third a oe e = if a && oe then e ∷ [] else []

digits_of_three : (c d e : ℕ) (t : Source) → is_octal c ≡ true → (a : Bool) →
    front is_octal (take (if a then 3 else 2) (c ∷ d ∷ e ∷ t)) ≡ c ∷ (if is_octal d then d ∷ third a (is_octal e) e else [])
unfolding front
digits_of_three c d e t octal true = rw octal refl
digits_of_three c d e t octal false = rw octal refl

-- ---- the alternatives, by what each digit is

abbrev if_found : Bool → ℕ → Source → Found ℕ
if_found b value rest = if b then Some (value, rest) else None

two_found : (c d : ℕ) (a od : Bool) →
    first_of (None ∷ if_found (true && not od) (number 8 (c ∷ [])) (d ∷ []) ∷ if_found (a && od && not false) (number 8 (c ∷ d ∷ [])) []
    ∷ if_found (not a && od) (number 8 (c ∷ d ∷ [])) [] ∷ None ∷ [])
    ≡ octal_found c (d ∷ []) (c ∷ (if od then d ∷ [] else []))
two_found c d true true = refl
two_found c d true false = refl
two_found c d false true = refl
two_found c d false false = refl

three_found : (c d e : ℕ) (t : Source) (a od oe : Bool) →
    first_of (None ∷ if_found (true && not od) (number 8 (c ∷ [])) (d ∷ e ∷ t) ∷ if_found (a && od && not oe) (number 8 (c ∷ d ∷ [])) (e ∷ t)
    ∷ if_found (not a && od) (number 8 (c ∷ d ∷ [])) (e ∷ t) ∷ if_found (a && od && oe) (number 8 (c ∷ d ∷ e ∷ [])) t ∷ [])
    ≡ octal_found c (d ∷ e ∷ t) (c ∷ (if od then d ∷ third a oe e else []))
three_found c d e t true true true = refl
three_found c d e t true true false = refl
three_found c d e t true false true = refl
three_found c d e t true false false = refl
three_found c d e t false true true = refl
three_found c d e t false true false = refl
three_found c d e t false false true = refl
three_found c d e t false false false = refl

-- ---- with 0 first

zero_two : (d : ℕ) (od : Bool) →
    first_of (if_found (not od) 0 (d ∷ []) ∷ None ∷ if_found (od && not false) (number 8 (char "0" ∷ d ∷ [])) [] ∷ None ∷ None ∷ [])
    ≡ octal_found (char "0") (d ∷ []) (char "0" ∷ (if od then d ∷ [] else []))
zero_two d true = refl
zero_two d false = refl

zero_three : (d e : ℕ) (t : Source) (od oe : Bool) →
    first_of (if_found (not od) 0 (d ∷ e ∷ t) ∷ None ∷ if_found (od && not oe) (number 8 (char "0" ∷ d ∷ [])) (e ∷ t) ∷ None
    ∷ if_found (od && oe) (number 8 (char "0" ∷ d ∷ e ∷ [])) t ∷ [])
    ≡ octal_found (char "0") (d ∷ e ∷ t) (char "0" ∷ (if od then d ∷ third true oe e else []))
zero_three d e t true true = refl
zero_three d e t true false = refl
zero_three d e t false true = refl
zero_three d e t false false = refl

zero_escape : (t : Source) → not (begins_with_digit t) ≡ false → legacy_octal_escape (char "0" ∷ t) ≡ octal_found (char "0") t (octal_digits (char "0") t)
zero_escape [] digit = absurd (cc)
zero_escape (d ∷ []) digit =
    rw (digits_of_two (char "0") d refl true, eight_or_nine d (decimal_of (is_decimal d) digit)) (zero_two d (is_octal d))
zero_escape (d ∷ e ∷ t) digit =
    rw (digits_of_three (char "0") d e t refl true, eight_or_nine d (decimal_of (is_decimal d) digit)) (zero_three d e t (is_octal d) (is_octal e))

-- ---- with another digit first

other_escape : (c : ℕ) (t : Source) → is_octal c ≡ true → (c == char "0") ≡ false → legacy_octal_escape (c ∷ t) ≡ octal_found c t (octal_digits c t)
other_escape c [] octal other =
    rw (digits_of_one c octal (nat_le c (char "3")), other, not_zero c octal other) refl
other_escape c (d ∷ []) octal other =
    rw (digits_of_two c d octal (nat_le c (char "3")), other, not_zero c octal other, low_digit c octal, high_digit c octal)
    (two_found c d (nat_le c (char "3")) (is_octal d))
other_escape c (d ∷ e ∷ t) octal other =
    rw (digits_of_three c d e t octal (nat_le c (char "3")), other, not_zero c octal other, low_digit c octal, high_digit c octal)
    (three_found c d e t (nat_le c (char "3")) (is_octal d) (is_octal e))

pub octal_escape : (c : ℕ) (t : Source) → is_octal c ≡ true → (c == char "0" && not (begins_with_digit t)) ≡ false →
    legacy_octal_escape (c ∷ t) ≡ octal_found c t (octal_digits c t)
octal_escape c t octal digit = at_character Claim (char "0") c (λ o e. zero_escape t e) (λ other o e. other_escape c t o other) octal digit
  where
    Claim : ℕ → Type 0
    Claim k = is_octal k ≡ true → (k == char "0" && not (begins_with_digit t)) ≡ false → legacy_octal_escape (k ∷ t) ≡ octal_found k t (octal_digits k t)

pub no_octal_escape : (c : ℕ) (t : Source) → is_octal c ≡ false → legacy_octal_escape (c ∷ t) ≡ None
no_octal_escape c [] none = rw (no_digit_first c none, no_digit_1 c none) refl
no_octal_escape c (d ∷ []) none =
    rw (no_digit_first c none, no_digit_1 c none, no_digit_3 c none, no_digit_4 c none) refl
no_octal_escape c (d ∷ e ∷ t) none =
    rw (no_digit_first c none, no_digit_1 c none, no_digit_3 c none, no_digit_4 c none) refl
