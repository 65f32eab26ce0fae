-- The characters of a string of code points, each of which is one character, are these code points.
use Rattle.std.proofs.Common.{◌≡◌, ◌∙◌, ℕ, ◌+◌, ◌-◌, ◌/◌, ◌%◌, ◌<◌, ◌≤◌, Bool, true, false, List, [], ◌∷◌, ◌++◌, inl, inr, refl, sym, ap, arith}
use Rattle.std.proofs.lemmas.Bool.{and_parts, and_from, cases_lt}
use Rattle.std.proofs.lemmas.Bool.Decides.{nat_tests}
use Rattle.std.proofs.lemmas.List.Elements.{All-tail}
use Rattle.std.proofs.lemmas.List.Sums.{list_all-from_AllPass}
use Rattle.std.specs.Char.{IsScalar}
use Rattle.std.specs.Char.Escape.{encode_utf16}
use Rattle.std.specs.Char.Utf16.{is_high_surrogate, is_low_surrogate, surrogate_pair_char}
use Rattle.regress_tree.specs.Reading.{IsText}
use Rattle.regress_ecma.specs.CodeUnits.{code_units, code_points, characters, is_one_character, is_exact}
use lib.Utf8.{scalar}

-- ---- one code point

pub one_unit : (c : ℕ) → c < 0x1_0000 → encode_utf16 c ≡ c ∷ []
one_unit c below = grind (arith, nat_tests)

-- the two code units of one above U+FFFF
unfoldable pub lead : ℕ → ℕ
lead c = 0xD800 + (c - 0x1_0000) / 0x400

unfoldable pub trail : ℕ → ℕ
trail c = 0xDC00 + (c - 0x1_0000) % 0x400

pub two_units : (c : ℕ) → 0x1_0000 ≤ c → encode_utf16 c ≡ lead c ∷ trail c ∷ []
unfolding lead trail
two_units c above = grind (arith, nat_tests)

high : (c : ℕ) → 0x1_0000 ≤ c → c < 0x11_0000 → is_high_surrogate (lead c) ≡ true
unfolding lead
high c above below = grind (arith, nat_tests)

low : (c : ℕ) → is_low_surrogate (trail c) ≡ true
unfolding trail
low c = grind (arith, nat_tests)

joined : (c : ℕ) → 0x1_0000 ≤ c → surrogate_pair_char (lead c) (trail c) ≡ c
unfolding lead trail
joined c above = grind (arith, nat_tests)

lead_below : (c : ℕ) → c < 0x11_0000 → lead c < 0x1_0000
unfolding lead
lead_below c below = omega arith

not_high : (c : ℕ) → scalar c ≡ true → c < 0x1_0000 → is_high_surrogate c ≡ false
not_high c is below = grind (arith, nat_tests)

in_range : (c : ℕ) → scalar c ≡ true → c < 0x11_0000
in_range c is = grind (arith, nat_tests)

within : (c : ℕ) → is_one_character false c ≡ true → c < 0x1_0000
within c is = grind (arith, nat_tests)

is_within : (c : ℕ) → c < 0x1_0000 → is_one_character false c ≡ true
is_within c below = grind (arith, nat_tests)

-- ---- without u

without_u : (points : List ℕ) → is_exact false points ≡ true → code_units points ≡ points
without_u [] is = refl
without_u (c ∷ points) is =
    let parts = and_parts (is_one_character false c) (is_exact false points) is in
    ap (λ units. units ++ code_units points) (one_unit c (within c parts.0)) ∙ ap (λ rest. c ∷ rest) (without_u points parts.1)

same_head : (c d : ℕ) (xs ys : List ℕ) → c ∷ xs ≡ d ∷ ys → c ≡ d
same_head c d xs ys same = cc

same_tail : (c d : ℕ) (xs ys : List ℕ) → c ∷ xs ≡ d ∷ ys → xs ≡ ys
same_tail c d xs ys same = cc

only_without_u : (text : List ℕ) → IsText text → code_units text ≡ text → is_exact false text ≡ true
only_without_u [] is_text same = refl
only_without_u (c ∷ text) is_text same =
    elim (cases_lt c 0x1_0000) [
      | inl below ↦ and_from (is_one_character false c) (is_exact false text) (is_within c below)
          (only_without_u text (All-tail IsScalar c text is_text)
          (same_tail c c _ _ (sym (ap (λ units. units ++ code_units text) (one_unit c below)) ∙ same)))
      | inr above ↦
          absurd (omega (
            arith,
            lead_below c (in_range c (is_text 0 c (omega arith))),
            same_head (lead c) c _ _ (sym (ap (λ units. units ++ code_units text) (two_units c above)) ∙ same),
          ))
    ]

-- ---- with u

pub by_itself : (u : ℕ) (units : List ℕ) → is_high_surrogate u ≡ false → code_points (u ∷ units) ≡ u ∷ code_points units
unfolding code_points
by_itself u [] none = refl
by_itself u (v ∷ units) none = rw none refl

pair : (u v : ℕ) (units : List ℕ) → is_high_surrogate u ≡ true → is_low_surrogate v ≡ true →
    code_points (u ∷ v ∷ units) ≡ surrogate_pair_char u v ∷ code_points units
unfolding code_points
pair u v units first second = rw (first, second) refl

of_one_unit : (c : ℕ) (points : List ℕ) → scalar c ≡ true → c < 0x1_0000 → code_points (code_units points) ≡ points →
    code_points (code_units (c ∷ points)) ≡ c ∷ points
of_one_unit c points is below others =
    ap (λ units. code_points (units ++ code_units points)) (one_unit c below)
    ∙ by_itself c (code_units points) (not_high c is below)
    ∙ ap (λ rest. c ∷ rest) others

of_two_units : (c : ℕ) (points : List ℕ) → scalar c ≡ true → 0x1_0000 ≤ c → code_points (code_units points) ≡ points →
    code_points (code_units (c ∷ points)) ≡ c ∷ points
of_two_units c points is above others =
    ap (λ units. code_points (units ++ code_units points)) (two_units c above)
    ∙ pair (lead c) (trail c) (code_units points) (high c above (in_range c is)) (low c)
    ∙ ap (λ d. d ∷ code_points (code_units points)) (joined c above)
    ∙ ap (λ rest. c ∷ rest) others

pub with_u : (points : List ℕ) → is_exact true points ≡ true → code_points (code_units points) ≡ points
unfolding code_points
with_u [] is = refl
with_u (c ∷ points) is =
    let parts = and_parts (is_one_character true c) (is_exact true points) is in
    let others = with_u points parts.1 in
    elim (cases_lt c 0x1_0000) [
      | inl below ↦ of_one_unit c points parts.0 below others
      | inr above ↦ of_two_units c points parts.0 above others
    ]

pub text_with_u : (text : List ℕ) → IsText text → is_exact true text ≡ true
text_with_u text is_text = list_all-from_AllPass scalar text is_text

-- ---- both

pub same_characters : (unicode : Bool) (points : List ℕ) → is_exact unicode points ≡ true → characters unicode (code_units points) ≡ points
same_characters true = with_u
same_characters false = without_u

pub only_if_same : (unicode : Bool) (text : List ℕ) → IsText text → characters unicode (code_units text) ≡ text → is_exact unicode text ≡ true
only_if_same true text is_text same = text_with_u text is_text
only_if_same false text is_text same = only_without_u text is_text same
