-- Without the flag u the productions of an escape find what CharacterEscape of ECMA-262 derives. A code point above U+FFFF is
-- two characters there.
use Rattle.std.proofs.Common.{◌≡◌, ℕ, ◌==◌, ◌-◌, ◌%◌, ◌<◌, ◌≤◌, ◌⊎◌, inl, inr, Bool, true, false, not, ◌&&◌, ◌||◌, [], ◌∷◌, length, take, drop, Some, None, if◌then◌else◌, refl, sym, ap, subst, ◌∙◌, nat_le, arith, length-take, leb-true}
use Rattle.std.specs.Option.{option_or}
use Rattle.std.specs.List.{list_all}
use Rattle.std.proofs.lemmas.Bool.{false≢true, and_parts}
use Rattle.std.proofs.lemmas.Bool.Decides.{nat_tests}
use Rattle.std.proofs.lemmas.Option.{none-some, same_Some}
use Rattle.regress_base.specs.Table.{Table}
use Rattle.regress_lexer.specs.declared.dialect.Dialect.TheVariants.{Ecma}
use Rattle.regress_lexer.specs.Source.{Source, Found, ◌>>=◌, char, is_one_of}
use Rattle.regress_lexer.specs.Digits.{hex_at, is_decimal, is_octal, is_letter, is_hex, number}
use Rattle.regress_lexer.specs.Escapes.{escape_at, character_escape_at, unicode_at, with_trail_surrogate, trail_surrogate_at, paired, or_identity_escape, begins_with_digit, octal_digits}
use Rattle.regress_lexer.specs.Escapes as Escapes
use Rattle.regress_lexer.proofs.lemmas.Digits.{hex_fits, octal_number_fits}
use Rattle.regress_ecma.specs.CharacterEscapes.{led_by, hex_4_digits, is_lead, is_trail, lead_unit, trail_unit, source_character, escaped_trail, character_escape, is_no_identity, identity_escape, legacy_octal_escape, control_escape, control_letter, null_escape, unicode_escape}
use Rattle.regress_ecma.specs.ClassNodes.{character}
use Rattle.regress_ecma.specs.ClassRanges.{class_atom_no_dash}
use Rattle.regress_ecma.proofs.EscapesWithU.{at_character, or_none, no_hex, trail_same}
use Rattle.regress_ecma.proofs.OctalEscapes.{octal_found, octal_escape, no_octal_escape}

-- ---- surrogates

lead_of_pair : (lead trail : ℕ) → is_lead lead ≡ true → is_trail trail ≡ true → lead_unit (paired lead trail) ≡ lead
lead_of_pair lead trail h l =
    let low : trail ≤ 0xDFFF = leb-true trail 0xDFFF (and_parts (nat_le 0xDC00 trail) (nat_le trail 0xDFFF) l).1 in
    let above : 0xD800 ≤ lead = leb-true 0xD800 lead (and_parts (nat_le 0xD800 lead) (nat_le lead 0xDBFF) h).0 in
    let above_trail : 0xDC00 ≤ trail = leb-true 0xDC00 trail (and_parts (nat_le 0xDC00 trail) (nat_le trail 0xDFFF) l).0 in
    omega arith

trail_of_pair : (lead trail : ℕ) → is_lead lead ≡ true → is_trail trail ≡ true → trail_unit (paired lead trail) ≡ trail
trail_of_pair lead trail h l =
    let low : trail ≤ 0xDFFF = leb-true trail 0xDFFF (and_parts (nat_le 0xDC00 trail) (nat_le trail 0xDFFF) l).1 in
    let above : 0xD800 ≤ lead = leb-true 0xD800 lead (and_parts (nat_le 0xD800 lead) (nat_le lead 0xDBFF) h).0 in
    let above_trail : 0xDC00 ≤ trail = leb-true 0xDC00 trail (and_parts (nat_le 0xDC00 trail) (nat_le trail 0xDFFF) l).0 in
    omega arith

pair_above : (lead trail : ℕ) → nat_le 0x10000 (paired lead trail) ≡ true
pair_above lead trail = grind (arith, nat_tests)

-- a trail surrogate
pub is_trail_unit : (c : ℕ) → is_trail (trail_unit c) ≡ true
is_trail_unit c = let small : (c - 0x10000) % 0x400 < 0x400 = omega arith in grind (arith, nat_tests)

trail_no_pair : (d : ℕ) → is_trail d ≡ true → nat_le 0x10000 d ≡ false
trail_no_pair d e = grind (arith, nat_tests)

trail_no_syntax : (d : ℕ) → is_trail d ≡ true → is_one_of "\\]-" d ≡ false
trail_no_syntax d e = grind (arith, nat_tests)

below : (c : ℕ) → c < 0x10000 → nat_le 0x10000 c ≡ false
below c small = grind (arith, nat_tests)

found_if : {A : Type 0} (b : Bool) (x y : A) → (if b then Some x else None) ≡ Some y → (b ≡ true) × (x ≡ y)
found_if true x y e = (refl, same_Some x y e)
found_if false x y e = absurd (none-some y e)

or_true : (b : Bool) → (b || true) ≡ true
or_true true = refl
or_true false = refl

hex_small : (n : ℕ) (t : Source) (x : ℕ × Source) → n ≤ 4 → hex_at n t ≡ Some x → nat_le 0x10000 x.0 ≡ false
hex_small n t x few e =
    let found = found_if (length (take n t) == n && list_all is_hex (take n t)) (number 16 (take n t), drop n t) x e in
    let short : length (take n t) ≤ 4 = omega (arith, length-take n t) in
    subst (λ (y : ℕ × Source). nat_le 0x10000 y.0 ≡ false) found.1
    (below (number 16 (take n t)) (hex_fits (take n t) short (and_parts (length (take n t) == n) (list_all is_hex (take n t)) found.0).1))

-- ---- what is found

-- the trail surrogate that remains after its lead surrogate: itself, or its escape
abbrev pub HasTrail : ℕ → (u rest : Source) → Type 0
HasTrail c u rest = (u ≡ trail_unit c ∷ rest) ⊎ (escaped_trail u ≡ Some (trail_unit c, rest))

module _ (table : Table) (named : Bool) where
  trail_itself : (c : ℕ) (t : Source) → class_atom_no_dash table false named (trail_unit c ∷ t) ≡ Some (character (trail_unit c), t)
  unfolding class_atom_no_dash
  trail_itself c t = by (trail_unit c) (is_trail_unit c)
    where
      by : (d : ℕ) → is_trail d ≡ true → class_atom_no_dash table false named (d ∷ t) ≡ Some (character d, t)
      by d e = rw (class_atom_no_dash, trail_no_syntax d e, trail_no_pair d e) refl

  abbrev IsTrailAt : ℕ → (u rest : Source) → Type 0
  IsTrailAt d u rest = (class_atom_no_dash table false named u ≡ Some (character d, rest)) × (is_trail d ≡ true)

  digits_of_trail : (d : ℕ) (w rest : Source) → hex_4_digits is_trail w ≡ Some (d, rest) → IsTrailAt d (char "\\" ∷ char "u" ∷ w) rest
  unfolding class_atom_no_dash
  digits_of_trail d w rest e = by (hex_at 4 w) refl e
    where
      by : (found : Found ℕ) → hex_at 4 w ≡ found →
          found >>= (λ (value, r). if is_trail value then Some (value, r) else None) ≡ Some (d, rest) → IsTrailAt d (char "\\" ∷ char "u" ∷ w) rest
      by None h k = absurd (none-some (d, rest) k)
      by (Some (value, r)) h k =
          let found = found_if (is_trail value) (value, r) (d, rest) k in
          let whole : hex_at 4 w ≡ Some (d, rest) = h ∙ ap (λ (x : ℕ × Source). Some x) found.1 in
          (rw (class_atom_no_dash, whole) refl, subst (λ (x : ℕ × Source). is_trail x.0 ≡ true) found.1 found.0)

  escaped_trail_found : (d : ℕ) (u rest : Source) → escaped_trail u ≡ Some (d, rest) → IsTrailAt d u rest
  escaped_trail_found d [] rest e = absurd (none-some (d, rest) e)
  escaped_trail_found d (c ∷ []) rest e = absurd (none-some (d, rest) (sym (by (c == char "\\")) ∙ e))
    where
      by : (b : Bool) → (if b then led_by (char "u") (hex_4_digits is_trail) [] else None) ≡ None
      by true = refl
      by false = refl
  escaped_trail_found d (c ∷ k ∷ w) rest e =
      at_character (λ x. escaped_trail (x ∷ k ∷ w) ≡ Some (d, rest) → IsTrailAt d (x ∷ k ∷ w) rest) (char "\\") c
      (at_character (λ y. escaped_trail (char "\\" ∷ y ∷ w) ≡ Some (d, rest) → IsTrailAt d (char "\\" ∷ y ∷ w) rest) (char "u") k
      (digits_of_trail d w rest)
      (λ miss found. absurd (none-some (d, rest) (sym (ap (λ (b : Bool). if b then hex_4_digits is_trail w else None) miss) ∙ found))))
      (λ miss found. absurd (none-some (d, rest) (sym (ap (λ (b : Bool). if b then led_by (char "u") (hex_4_digits is_trail)
      (k ∷ w) else None) miss) ∙ found))) e

  pub class_trail : (c : ℕ) (u rest : Source) → HasTrail c u rest → class_atom_no_dash table false named u ≡ Some (character (trail_unit c), rest)
  class_trail c u rest (inl e) = ap (class_atom_no_dash table false named) e ∙ trail_itself c rest
  class_trail c u rest (inr e) = (escaped_trail_found (trail_unit c) u rest e).0

  -- The same is found, or the lead surrogate with the trail surrogate after it.
  abbrev pub IsUnits : (mine found : Found ℕ) → Type 0
  IsUnits mine None = mine ≡ None
  IsUnits mine (Some (c, rest)) =
      (nat_le 0x10000 c ≡ false) × (mine ≡ Some (c, rest))
      ⊎ ((u : Source) × (nat_le 0x10000 c ≡ true) × (mine ≡ Some (lead_unit c, u)) × HasTrail c u rest)

  units_of_character : (c : ℕ) (t : Source) → IsUnits (source_character false (c ∷ t)) (Some (c, t))
  units_of_character c t = by (nat_le 0x10000 c) refl
    where
      by : (b : Bool) → nat_le 0x10000 c ≡ b → IsUnits (if b then Some (lead_unit c, trail_unit c ∷ t) else Some (c, t)) (Some (c, t))
      by true e = inr (trail_unit c ∷ t, e, refl, inl refl)
      by false e = inl (e, refl)

  abbrev Units : Source → Type 0
  Units t = IsUnits (character_escape false named t) (character_escape_at Ecma false t)

  -- LegacyOctalEscapeSequence, or IdentityEscape
  abbrev octal_or_identity : ℕ → Source → Found ℕ
  octal_or_identity c t = option_or (legacy_octal_escape (c ∷ t)) (option_or (identity_escape false named (c ∷ t)) None)

  octal_units : (c : ℕ) (t : Source) → is_octal c ≡ true → (c == char "0" && not (begins_with_digit t)) ≡ false →
      IsUnits (octal_or_identity c t) (octal_found c t (octal_digits c t))
  octal_units c t octal digit =
      subst (λ (found : Found ℕ). IsUnits (option_or found (option_or (identity_escape false named (c ∷ t)) None)) (octal_found c t (octal_digits c t)))
      (sym (octal_escape c t octal digit)) (inl (below _ small, refl))
    where
      small : number 8 (octal_digits c t) < 0x10000
      small = omega (arith, octal_number_fits c t)

  identity_units : (c : ℕ) (t : Source) → is_octal c ≡ false → is_no_identity named c ≡ false → IsUnits (octal_or_identity c t) (Some (c, t))
  identity_units c t none identity =
      subst (λ (found : Found ℕ). IsUnits found (Some (c, t)))
      (sym
      (ap (λ (found : Found ℕ). option_or found (option_or (identity_escape false named (c ∷ t)) None)) (no_octal_escape c t none)
      ∙ or_none (identity_escape false named (c ∷ t))
      ∙ or_none (if is_no_identity named c then None else source_character false (c ∷ t))
      ∙ ap (λ (b : Bool). if b then None else source_character false (c ∷ t)) identity))
      (units_of_character c t)

  at_zero : (t : Source) → Units (char "0" ∷ t)
  unfolding escape_at
  at_zero [] = inl (refl, refl)
  at_zero (d ∷ t) = by (is_decimal d) refl
    where
      by : (b : Bool) → is_decimal d ≡ b →
          IsUnits (option_or (if not b then Some (0, d ∷ t) else None) (octal_or_identity (char "0") (d ∷ t)))
          (if not b then Some (0, d ∷ t) else octal_found (char "0") (d ∷ t) (octal_digits (char "0") (d ∷ t)))
      by true e = octal_units (char "0") (d ∷ t) refl (ap not e)
      by false e = inl (refl, refl)

  letter_identity : (c : ℕ) → (char "c" == c) ≡ false → (char "k" == c) ≡ false → (c == char "c") ≡ false → is_no_identity named c ≡ false
  letter_identity c one two three = by named
    where
      by : (b : Bool) → (if b then (char "c" == c || (char "k" == c || false)) else c == char "c") ≡ false
      by true = rw (one, two) refl
      by false = three

  at_x : (t : Source) → Units (char "x" ∷ t)
  unfolding escape_at
  at_x t = by (hex_at 2 t) refl
    where
      by : (found : Found ℕ) → hex_at 2 t ≡ found → IsUnits (option_or found (octal_or_identity (char "x") t)) (or_identity_escape false (char "x") t found)
      by None e = identity_units (char "x") t refl (letter_identity (char "x") refl refl refl)
      by (Some x) e = inl (hex_small 2 t x (omega arith) e, refl)

  pair_units : (lead : ℕ) (t : Source) → is_lead lead ≡ true → (second : Found ℕ) → escaped_trail t ≡ second →
      nat_le 0x10000 lead ≡ false →
      IsUnits (Some (lead, t)) (elim second as (λ _. Found ℕ) [ None ↦ Some (lead, t) | Some low ↦ Some (paired lead low.0, low.1) ])
  pair_units lead t is None e small = inl (small, refl)
  pair_units lead t is (Some (d, rest)) e small =
      let found = escaped_trail_found d t rest e in
      inr (
        t,
        pair_above lead d,
        ap (λ (x : ℕ). Some (x, t)) (sym (lead_of_pair lead d is found.1)),
        inr (e ∙ ap (λ (x : ℕ). Some (x, rest)) (sym (trail_of_pair lead d is found.1))),
      )

  at_u : (t : Source) → Units (char "u" ∷ t)
  unfolding escape_at unicode_at
  at_u [] = identity_units (char "u") [] refl (letter_identity (char "u") refl refl refl)
  at_u (c ∷ t) =
      at_character (λ d. Units (char "u" ∷ d ∷ t)) (char "{") c
      (rw (no_hex t) (identity_units (char "u") (char "{" ∷ t) refl (letter_identity (char "u") refl refl refl)))
      (λ e. rw (escape_at, unicode_at, e) (by (hex_at 4 (c ∷ t)) refl))
    where
      by : (found : Found ℕ) → hex_at 4 (c ∷ t) ≡ found →
          IsUnits (option_or (option_or found None) (octal_or_identity (char "u") (c ∷ t)))
          (or_identity_escape false (char "u") (c ∷ t) (found >>= with_trail_surrogate))
      by None e = identity_units (char "u") (c ∷ t) refl (letter_identity (char "u") refl refl refl)
      by (Some (value, r)) e = with_trail (is_lead value) refl
        where
          small : nat_le 0x10000 value ≡ false
          small = hex_small 4 (c ∷ t) (value, r) (omega arith) e

          with_trail : (b : Bool) → is_lead value ≡ b →
              IsUnits (Some (value, r)) (or_identity_escape false (char "u") (c ∷ t)
              (if b then elim (trail_surrogate_at r) as (λ _. Found ℕ) [
                | None ↦ Some (value, r)
                | Some low ↦ Some
                    (paired value low.0, low.1)
              ] else Some (value, r)))
          with_trail true lead =
              by_second (trail_surrogate_at r) (trail_same r)
            where
              by_second : (second : Found ℕ) → escaped_trail r ≡ second →
                  IsUnits (Some (value, r)) (or_identity_escape false (char "u") (c ∷ t)
                  (elim second as (λ _. Found ℕ) [ None ↦ Some (value, r) | Some low ↦ Some (paired value low.0, low.1) ]))
              by_second None f = pair_units value r lead None f small
              by_second (Some second) f = pair_units value r lead (Some second) f small
          with_trail false lead = inl (small, refl)

  choose : (a b c d e f : Found ℕ) → a ≡ None → b ≡ None → c ≡ None → d ≡ None → e ≡ None →
      f ≡ option_or a (option_or b (option_or c (option_or d (option_or e f))))
  choose a b c d e f p q r s v = rw (p, q, r, s, v) refl

  pub escape_without_u : (c : ℕ) (t : Source) → is_no_identity named c ≡ false → Units (c ∷ t)
  unfolding escape_at
  escape_without_u c t identity =
      at_character (λ d. Units (d ∷ t)) (char "f") c (inl (refl, refl))
      (λ f. at_character (λ d. Units (d ∷ t)) (char "n") c (inl (refl, refl))
      (λ n. at_character (λ d. Units (d ∷ t)) (char "r") c (inl (refl, refl))
      (λ r. at_character (λ d. Units (d ∷ t)) (char "t") c (inl (refl, refl))
      (λ tab. at_character (λ d. Units (d ∷ t)) (char "v") c (inl (refl, refl))
      (λ v. at_character (λ d. is_no_identity named d ≡ false → Units (d ∷ t)) (char "c") c (λ h. absurd (no_c named h))
      (λ letter _. at_character (λ d. Units (d ∷ t)) (char "0") c (at_zero t)
      (λ zero. at_character (λ d. Units (d ∷ t)) (char "x") c (at_x t)
      (λ x. at_character (λ d. Units (d ∷ t)) (char "u") c (at_u t)
      (λ u. subst (λ (found : Found ℕ). IsUnits found (character_escape_at Ecma false (c ∷ t)))
      (choose (control_escape (c ∷ t)) (led_by (char "c") (control_letter is_letter) (c ∷ t)) (null_escape (c ∷ t)) (led_by (char "x") (hex_at 2) (c ∷ t))
      (unicode_escape false (c ∷ t)) (octal_or_identity c t)
      (rw (f, n, r, tab, v) refl) (rw letter refl) (rw zero refl) (rw x refl) (rw u refl))
      (subst (IsUnits (octal_or_identity c t)) (sym (found_is f n r tab v letter zero x u)) (by_octal (is_octal c) refl zero)))))) identity)))))
    where
      no_c : (b : Bool) → (if b then true else true) ≡ false → ⊥
      no_c true h = false≢true (sym h)
      no_c false h = false≢true (sym h)

      found_is : (c == char "f") ≡ false → (c == char "n") ≡ false → (c == char "r") ≡ false → (c == char "t") ≡ false → (c == char "v") ≡ false →
          (c == char "c") ≡ false → (c == char "0") ≡ false → (c == char "x") ≡ false → (c == char "u") ≡ false →
          character_escape_at Ecma false (c ∷ t) ≡ (if is_octal c then octal_found c t (octal_digits c t) else Some (c, t))
      found_is f n r tab v letter zero x u = rw (escape_at, f, n, r, tab, v, letter, zero, x, u, or_true (Escapes.is_syntax_character c)) refl

      by_octal : (b : Bool) → is_octal c ≡ b → (c == char "0") ≡ false →
          IsUnits (octal_or_identity c t) (if b then octal_found c t (octal_digits c t) else Some (c, t))
      by_octal true e zero = octal_units c t e (ap (λ (b : Bool). b && not (begins_with_digit t)) zero)
      by_octal false e zero = identity_units c t e identity
