-- A numeral is a word of digits and determines its number. Of a machine integer it is what `{}` writes.
use Rattle.std.proofs.Common.{◌≡◌, ◌≢◌, ◌∙◌, ℕ, zero, suc, ◌+◌, ◌-◌, ◌<◌, ◌≤◌, ◌^◌, true, if◌then◌else◌, List, [], ◌∷◌, ◌++◌, flat_map, map, get_or, refl, sym, ap, arith, codes}
use Rattle.std.specs.Fmt.{decimal}
use Rattle.std.specs.Int.Digits.{digits_of, number_from_digits, AllBelowBase}
use Rattle.std.specs.List.{join_by}
use Rattle.std.proofs.lemmas.Bool.{and_from, le-leb, ne_eqb}
use Rattle.std.proofs.lemmas.Fmt.{decimal_digit, decimal-digits_of}
use Rattle.std.proofs.lemmas.Int.Digits.{all_below_base_digits_of, first_digits_of, number_digits_of}
use Rattle.regress_json.specs.Json.{is_word_byte, is_word}
use Rattle.regress_json.specs.Json.{numeral}

-- digits as text, and back
abbrev glyphs : List ℕ → List ℕ
glyphs ds = map (λ d. 48 + d) ds

abbrev pub value : List ℕ → ℕ
value cs = number_from_digits 10 (map (λ c. c - 48) cs)

numeral-suc : (m : ℕ) → numeral (suc m) ≡ glyphs (digits_of 10 (suc m))
unfolding numeral
numeral-suc m =
    let some : suc m ≢ 0 = λ e. omega arith in
    ap (λ t. if t then codes "0" else glyphs (digits_of 10 (suc m))) (ne_eqb (suc m) 0 some)

numeral-zero : numeral 0 ≡ codes "0"
unfolding numeral
numeral-zero = refl

pub decimal-numeral : (n : ℕ) → n < 2 ^ 64 → decimal n ≡ numeral n
decimal-numeral zero h = decimal_digit 0 (omega arith) ∙ sym numeral-zero
decimal-numeral (suc m) h = decimal-digits_of (suc m) (omega arith) h ∙ sym (numeral-suc m)

further-numerals : (xs : List ℕ) → ((i : ℕ) → get_or xs i 0 < 2 ^ 64) →
    flat_map (λ x. codes "," ++ decimal x) xs ≡ flat_map (λ x. codes "," ++ numeral x) xs
further-numerals [] small = refl
further-numerals (x ∷ xs) small =
    let first = decimal-numeral x (small 0) in
    let others = further-numerals xs (λ i. small (suc i)) in
    λ i. (codes "," ++ first i) ++ others i

-- machine integers, separated by commas
pub join-numerals : (xs : List ℕ) → ((i : ℕ) → get_or xs i 0 < 2 ^ 64) → join_by decimal (codes ",") xs ≡ join_by numeral (codes ",") xs
join-numerals [] small = refl
join-numerals (x ∷ xs) small =
    let first = decimal-numeral x (small 0) in
    let others = further-numerals xs (λ i. small (suc i)) in
    λ i. first i ++ others i

digit-is_word_byte : (c : ℕ) → 48 ≤ c → c ≤ 57 → is_word_byte c ≡ true
digit-is_word_byte c low high = let l = le-leb 48 c low in let u = le-leb c 57 high in rw (l, u)

glyphs-are_word : (ds : List ℕ) → AllBelowBase 10 ds → is_word (glyphs ds) ≡ true
glyphs-are_word [] h = refl
glyphs-are_word (d ∷ ds) h =
    and_from (is_word_byte (48 + d)) (is_word (glyphs ds)) (digit-is_word_byte (48 + d) (omega arith) (omega (arith, h.0))) (glyphs-are_word ds h.1)

pub numeral-is_word : (n : ℕ) → is_word (numeral n) ≡ true
numeral-is_word zero = ap is_word numeral-zero
numeral-is_word (suc m) = ap is_word (numeral-suc m) ∙ glyphs-are_word (digits_of 10 (suc m)) (all_below_base_digits_of 10 (suc m) (omega arith))

digits-back : (ds : List ℕ) → map (λ c. c - 48) (glyphs ds) ≡ ds
digits-back [] = refl
digits-back (d ∷ ds) =
    let same : 48 + d - 48 ≡ d = omega arith in
    let others = digits-back ds in
    λ i. same i ∷ others i

pub value-numeral : (n : ℕ) → value (numeral n) ≡ n
value-numeral zero = ap value numeral-zero
value-numeral (suc m) =
    ap value (numeral-suc m) ∙ ap (number_from_digits 10) (digits-back (digits_of 10 (suc m))) ∙ number_digits_of 10 (suc m) (omega arith)

-- the text begins with a digit
pub record BeginsWithDigit (text : List ℕ) : Type 0 where
  pub digit : ℕ
  pub others : List ℕ
  pub is : text ≡ digit ∷ others
  pub low : 48 ≤ digit
  pub high : digit ≤ 57

glyphs-begin : (ds : List ℕ) → 0 < get_or ds 0 0 → AllBelowBase 10 ds → BeginsWithDigit (glyphs ds)
glyphs-begin [] some h = absurd (omega arith)
glyphs-begin (d ∷ ds) some h = record { digit = 48 + d; others = glyphs ds; is = refl; low = omega arith; high = omega (arith, h.0) }

pub numeral-begins : (n : ℕ) → BeginsWithDigit (numeral n)
numeral-begins zero = record { digit = 48; others = []; is = numeral-zero; low = omega arith; high = omega arith }
numeral-begins (suc m) =
    let ds = digits_of 10 (suc m) in
    let begins = glyphs-begin ds (first_digits_of 10 (suc m) (omega arith) (omega arith)) (all_below_base_digits_of 10 (suc m) (omega arith)) in
    record { digit = begins.digit; others = begins.others; is = numeral-suc m ∙ begins.is; low = begins.low; high = begins.high }
