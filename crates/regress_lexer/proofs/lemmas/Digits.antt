-- Digits at the start of a source, and the numbers that they denote.
use Rattle.std.proofs.Common.{◌≡◌, ℕ, zero, suc, ◌+◌, ◌*◌, ◌-◌, ◌^◌, ◌<◌, ◌≤◌, min, ⊎_elim, nat_le, ◌==◌, Bool, true, false, ◌&&◌, cond, List, [], ◌∷◌, map, length, get_or, take, drop, Some, refl, sym, ap, ◌∙◌, subst, arith}
use Rattle.std.proofs.lemmas.Bool.Decides.{nat_tests}
use Rattle.std.proofs.lemmas.Bool.{cases_lt, cond-false, ne_eqb, false≢true}
use Rattle.std.proofs.Math.Nat.{min_comm, mul-le-mul_left, pow-le-pow_right}
use Rattle.std.proofs.lemmas.Int.Digits.{number_after_lt}
use Rattle.std.specs.Int.Digits.{number_from_digits_after, AllBelowBase}
use Rattle.std.proofs.lemmas.List.{length-map, length-take, take-take, take_min}
use Rattle.std.proofs.lemmas.List.Sums.{prefix_len-le-length}
use Rattle.regress_lexer.specs.Escapes.{octal_digits}
use Rattle.std.specs.List.{prefix_len, list_all}
use Rattle.regress_lexer.specs.Source.{Source}
use Rattle.regress_lexer.specs.Quantifiers.{count_at}
use Rattle.regress_lexer.specs.Digits.{is_decimal, is_octal, is_hex, digit, number_from, number, front, after}

-- The longest prefix that passes a test, by its length.
front_cons : (p : ℕ → Bool) (c : ℕ) (t : Source) (n : ℕ) (b : Bool) → front p t ≡ take n t →
    cond b (c ∷ front p t) [] ≡ take (cond b (1 + n) 0) (c ∷ t)
front_cons p c t n true e = let same : 1 + n ≡ suc n = omega arith in rw same (ap (λ (u : Source). c ∷ u) e)
front_cons p c t n false e = refl

pub front_taken : (p : ℕ → Bool) (t : Source) → front p t ≡ take (prefix_len p t) t
unfolding front
front_taken p [] = refl
front_taken p (c ∷ t) = front_cons p c t (prefix_len p t) (p c) (front_taken p t)

after_cons : (p : ℕ → Bool) (c : ℕ) (t : Source) (n : ℕ) (b : Bool) → after p t ≡ drop n t →
    cond b (after p t) (c ∷ t) ≡ drop (cond b (1 + n) 0) (c ∷ t)
after_cons p c t n true e = let same : 1 + n ≡ suc n = omega arith in rw same e
after_cons p c t n false e = refl

pub after_dropped : (p : ℕ → Bool) (t : Source) → after p t ≡ drop (prefix_len p t) t
unfolding after
after_dropped p [] = refl
after_dropped p (c ∷ t) = after_cons p c t (prefix_len p t) (p c) (after_dropped p t)

-- One more digit.
pub number_from-more : (base n : ℕ) (cs : List ℕ) (k d : ℕ) → k < length cs →
    number_from base n (take (k + 1) cs) ≡ number_from base n (take k cs) * base + digit (get_or cs k d)
number_from-more base n [] k d h = absurd (omega arith)
number_from-more base n (c ∷ cs) zero d h = refl
number_from-more base n (c ∷ cs) (suc k) d h =
    let same : k + 1 ≡ suc k = omega arith in
    let same_suc : suc k + 1 ≡ suc (suc k) = omega arith in
    let more = number_from-more base (n * base + digit c) cs k d (omega arith) in
    rw same_suc (rw same at more)

-- A saturated number stays saturated.
pub saturates : (base n d limit : ℕ) → 2 ≤ base → min (min (min n limit * base) limit + d) limit ≡ min (n * base + d) limit
saturates base n d limit h =
    ⊎_elim
    (λ (lt : limit < n).
    let e : min n limit ≡ limit = omega arith in
    let up : n * 1 ≤ n * base = mul-le-mul_left n (omega arith) in
    let high : limit * 1 ≤ limit * base = mul-le-mul_left limit (omega arith) in
    rw e (omega arith))
    (λ (le : n ≤ limit). let e : min n limit ≡ n = omega arith in rw e (omega arith))
    (cases_lt limit n)

-- Saturating before the next digits does not change the saturated result.
cut_before : (base n d limit : ℕ) → 2 ≤ base → min (min n limit * base + d) limit ≡ min (n * base + d) limit
cut_before base n d limit h =
    ⊎_elim
    (λ (lt : limit < n).
    let e : min n limit ≡ limit = omega arith in
    let up : n * 1 ≤ n * base = mul-le-mul_left n (omega arith) in
    let high : limit * 1 ≤ limit * base = mul-le-mul_left limit (omega arith) in
    rw e (omega arith))
    (λ (le : n ≤ limit). let e : min n limit ≡ n = omega arith in rw e refl)
    (cases_lt limit n)

pub cut_number : (base n limit : ℕ) (cs : List ℕ) → 2 ≤ base → min (number_from base (min n limit) cs) limit ≡ min (number_from base n cs) limit
cut_number base n limit [] h = omega arith
cut_number base n limit (c ∷ cs) h =
    sym (cut_number base (min n limit * base + digit c) limit cs h)
    ∙ ap (λ m. min (number_from base m cs) limit) (cut_before base n (digit c) limit h)
    ∙ cut_number base (n * base + digit c) limit cs h

-- One more digit, with the saturating arithmetic of the code.
pub cut_digit : (n d limit : ℕ) (cs : List ℕ) →
    min (number_from 10 (min (min (n * 10) limit + d) limit) cs) limit ≡ min (number_from 10 (n * 10 + d) cs) limit
cut_digit n d limit cs =
    let same : min (min (n * 10) limit + d) limit ≡ min (n * 10 + d) limit = omega arith in
    ap (λ m. min (number_from 10 m cs) limit) same ∙ cut_number 10 (n * 10 + d) limit cs (omega arith)

-- A decimal digit at the start belongs to the number.
pub front_digit : (c : ℕ) (t : Source) → is_decimal c ≡ true → front is_decimal (c ∷ t) ≡ c ∷ front is_decimal t
unfolding front
front_digit c t e = rw e refl

pub after_digit : (c : ℕ) (t : Source) → is_decimal c ≡ true → after is_decimal (c ∷ t) ≡ after is_decimal t
unfolding after
after_digit c t e = rw e refl

pub and_both : (a b : Bool) → (a && b) ≡ true → (a ≡ true) × (b ≡ true)
and_both true b e = (refl, e)
and_both false b e = absurd (false≢true e)

digits_below : (base : ℕ) (p : ℕ → Bool) → ((c : ℕ) → p c ≡ true → digit c < base) → (cs : List ℕ) → list_all p cs ≡ true → AllBelowBase base (map digit cs)
digits_below base p h [] e = tt
digits_below base p h (c ∷ cs) e =
    let both = and_both (p c) (list_all p cs) e in
    (h c both.0, digits_below base p h cs both.1)

hex_below : (c : ℕ) → is_hex c ≡ true → digit c < 16
hex_below c e = grind (arith, nat_tests)

octal_below : (c : ℕ) → is_octal c ≡ true → digit c < 8
octal_below c e = grind (arith, nat_tests)

number_as_digits : (base n : ℕ) (cs : List ℕ) → number_from base n cs ≡ number_from_digits_after base n (map digit cs)
number_as_digits base n [] = refl
number_as_digits base n (c ∷ cs) = number_as_digits base (n * base + digit c) cs

passes_more : (p : ℕ → Bool) (c : ℕ) (t : Source) → list_all p t ≡ true → (b : Bool) → p c ≡ b → list_all p (cond b (c ∷ t) []) ≡ true
passes_more p c t h true e = rw e h
passes_more p c t h false e = refl

front_passes : (p : ℕ → Bool) (t : Source) → list_all p (front p t) ≡ true
unfolding front
front_passes p [] = refl
front_passes p (c ∷ t) = passes_more p c (front p t) (front_passes p t) (p c) refl

octal_length : (b : Bool) (t : Source) → length (take (cond b 3 2) t) ≤ 3
octal_length true t = omega (arith, length-take 3 t)
octal_length false t = omega (arith, length-take 2 t)

pub front_shorter : (p : ℕ → Bool) (t : Source) → length (front p t) ≤ length t
unfolding front
front_shorter p [] = omega arith
front_shorter p (c ∷ t) = elim (p c) as (λ b. length (cond b (c ∷ front p t) []) ≤ length (c ∷ t))
    [ true ↦ omega (arith, front_shorter p t) | false ↦ omega arith ]

number_below : (base : ℕ) (cs : List ℕ) → AllBelowBase base (map digit cs) → number base cs < base ^ length cs
number_below base cs h =
    let below : number base cs < (0 + 1) * base ^ length (map digit cs) =
    rw (number_as_digits base 0 cs) (number_after_lt base 0 (map digit cs) h) in
    let same : length (map digit cs) ≡ length cs = length-map cs digit in
    let below_same : number base cs < (0 + 1) * base ^ length cs = subst (λ n. number base cs < (0 + 1) * base ^ n) same below in
    omega arith

-- At most four hexadecimal digits denote a number below 0x10000.
pub hex_fits : (cs : List ℕ) → length cs ≤ 4 → list_all is_hex cs ≡ true → number 16 cs < 0x10000
hex_fits cs short e =
    let below = number_below 16 cs (digits_below 16 is_hex hex_below cs e) in
    let most : 16 ^ length cs ≤ 16 ^ 4 = pow-le-pow_right (omega arith) short in
    omega arith

pub octal_fits : (t : Source) → length t ≤ 3 → number 8 (front is_octal t) < 512
octal_fits t short =
    let below = number_below 8 (front is_octal t) (digits_below 8 is_octal octal_below (front is_octal t) (front_passes is_octal t)) in
    let shorter = front_shorter is_octal t in
    let most : 8 ^ length (front is_octal t) ≤ 8 ^ 3 =
    let few : length (front is_octal t) ≤ 3 = omega arith in pow-le-pow_right (omega arith) few in
    omega arith

pub drop_one_more : (t : Source) → drop 1 (drop 1 t) ≡ drop 2 t
drop_one_more [] = refl
drop_one_more (c ∷ []) = refl
drop_one_more (c ∷ d ∷ t) = refl

-- The octal digits of an escape are the first one and those that the code counts after it.
pub octal_digits_counted : (c most n : ℕ) (t : Source) → is_octal c ≡ true → most + 1 ≡ cond (nat_le c 51) 3 2 →
    n ≡ prefix_len is_octal (take (min (length t) most) t) → octal_digits c t ≡ c ∷ take n t
unfolding front
octal_digits_counted c most n t octal e counted =
    let short : take (min (length t) most) t ≡ take most t = rw (min_comm (length t) most) (take_min most t) in
    let same : n ≡ prefix_len is_octal (take most t) = subst (λ (u : Source). n ≡ prefix_len is_octal u) short counted in
    let few : n ≤ most = omega (arith, same, prefix_len-le-length is_octal (take most t), length-take most t) in
    let front_is : front is_octal (take most t) ≡ take n t = rw (front_taken is_octal (take most t), ← same) (take-take n most t few) in
    let more : suc most ≡ cond (nat_le c 51) 3 2 = omega (arith, e) in
    rw (← more, octal) (ap (λ (u : Source). c ∷ u) front_is)

pub octal_number_fits : (c : ℕ) (t : Source) → number 8 (octal_digits c t) < 512
octal_number_fits c t = octal_fits (take (cond (nat_le c 51) 3 2) (c ∷ t)) (octal_length (nat_le c 51) (c ∷ t))

pub next_number : (base c d : ℕ) (cs : List ℕ) → d ≡ digit c → number base (c ∷ cs) ≡ number_from base d cs
next_number base c d cs e = ap (λ n. number_from base n cs) (omega (arith, e))

-- A decimal number, parsed from its first digit and the digits after it.
pub counted_digits : (c : ℕ) (t source : Source) (d n : ℕ) (rest : Source) → source ≡ c ∷ t → is_decimal c ≡ true → d ≡ digit c →
    n ≡ min (number_from 10 d (front is_decimal t)) (2 ^ 64 - 1) → rest ≡ after is_decimal t → Some (n, rest) ≡ count_at source
counted_digits c t source d n rest split decimal first counted left =
    rw (split, front_digit c t decimal, after_digit c t decimal, counted, left)
    (sym (cond-false (length (c ∷ front is_decimal t) == 0) _ _ (ne_eqb (length (c ∷ front is_decimal t)) 0 (λ z. omega (arith, z)))
    ∙ ap (λ m. Some (min m (2 ^ 64 - 1), after is_decimal t)) (next_number 10 c d (front is_decimal t) first)))
