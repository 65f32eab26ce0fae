-- Steps over the code units of a text, from the index of a position.
use Rattle.std.proofs.Common.{◌≡◌, ◌∙◌, ℕ, zero, suc, ◌+◌, ◌-◌, ◌≤◌, ◌==◌, Bool, true, false, ◌&&◌, ◌||◌, All, List, [], ◌∷◌, length, map, slice_get, Some, option_map, inl, inr, if◌then◌else◌, refl, sym, ap, ap₂, subst, add-one, arith}
use Rattle.std.proofs.lemmas.Bool.{and_parts, cases_lt, cond-false, false≢true, ne_eqb}
use Rattle.std.proofs.lemmas.Bool.Decides.{nat_tests}
use Rattle.std.proofs.lemmas.List.Elements.{All-append, All-cons, All-head, All-nil, All-tail}
use Rattle.std.proofs.lemmas.Option.{none-some, slice_get-get_or}
use Rattle.std.specs.Char.{IsScalar}
use Rattle.std.specs.Char.Escape.{encode_utf16}
use Rattle.std.specs.Char.Utf16.{is_high_surrogate}
use Rattle.regress_base.specs.Classes.{line_terminators, word_characters}
use Rattle.regress_base.specs.Intervals.{Bounds, is_member, is_within}
use Rattle.regress_base.specs.declared.types.AnchorType.{AnchorType}
use Rattle.regress_base.specs.declared.types.AnchorType.TheVariants.{StartOfLine, EndOfLine}
use Rattle.regress_tree.specs.Assertions.{at_anchor, at_boundary, differ, is_line_terminator, passes}
use Rattle.regress_tree.specs.Reading.{Direction, forwards, backwards, IsText, of_characters}
use Rattle.regress_tree.specs.Steps.{MatchState, hold_at, moved, one_character}
use Rattle.regress_lexer.specs.Source.{IsCodePoint}
use Rattle.regress_ecma.specs.CodeUnits.{code_units, unit_capture, unit_position}
use Rattle.regress_ecma.specs.SurrogatePairs.{is_outside_pairs, is_interval_outside, are_outside_pairs}
use Rattle.regress_ecma.proofs.CodeUnits.{lead, one_unit, trail, two_units}
use Rattle.regress_ecma.proofs.UnitPositions.{unit_position-eq, unit_position-length, what_is_at, IsAt, IsTwo}

-- the same state by code units
abbrev pub unit_state : List ℕ → MatchState → MatchState
unit_state text s = record { position = unit_position text s.position; captures = map (unit_capture text) s.captures }

-- ---- tests that characters of pairs do not pass

-- What passes the test is outside of pairs.
abbrev pub IsOutside : (ℕ → Bool) → Type 0
IsOutside test = (c : ℕ) → c ≤ 0x10FFFF → test c ≡ true → is_outside_pairs c ≡ true

pub fails : (test : ℕ → Bool) → IsOutside test → (c : ℕ) → c ≤ 0x10FFFF → is_outside_pairs c ≡ false → test c ≡ false
fails test outside c within is = by_test (test c) refl
  where
    by_test : (b : Bool) → test c ≡ b → test c ≡ false
    by_test false e = e
    by_test true e = absurd (false≢true (sym is ∙ outside c within e))

lead_inside : (c : ℕ) → 0x1_0000 ≤ c → c ≤ 0x10FFFF → is_outside_pairs (lead c) ≡ false
unfolding lead
lead_inside c above within = grind (arith, nat_tests)

lead_within : (c : ℕ) → c ≤ 0x10FFFF → lead c ≤ 0x10FFFF
unfolding lead
lead_within c within = omega arith

pub trail_inside : (c : ℕ) → is_outside_pairs (trail c) ≡ false
unfolding trail
trail_inside c = grind (arith, nat_tests)

pub trail_within : (c : ℕ) → trail c ≤ 0x10FFFF
unfolding trail
trail_within c = omega arith

beyond : (c : ℕ) → 0x1_0000 ≤ c → is_outside_pairs c ≡ false
beyond c above = grind (arith, nat_tests)

interval_outside : (b : Bounds) (c : ℕ) → is_interval_outside b ≡ true → is_within b c ≡ true → is_outside_pairs c ≡ true
unfolding is_within
interval_outside b c outside within = grind (arith, nat_tests, outside, within)

pub set_outside : (set : List Bounds) → are_outside_pairs set ≡ true → (c : ℕ) → is_member set c ≡ true → is_outside_pairs c ≡ true
unfolding is_member
set_outside [] outside c member = absurd (false≢true member)
set_outside (b ∷ set) outside c member =
    let parts = and_parts (is_interval_outside b) (are_outside_pairs set) outside in
    by_test (is_within b c) refl member (set_outside set parts.1 c)
  where
    by_test : (w : Bool) → is_within b c ≡ w → (w || is_member set c) ≡ true → (is_member set c ≡ true → is_outside_pairs c ≡ true) →
        is_outside_pairs c ≡ true
    by_test true e h later = interval_outside b c (and_parts (is_interval_outside b) (are_outside_pairs set) outside).0 e
    by_test false e h later = later h

pub terminators_outside : IsOutside is_line_terminator
terminators_outside c within = set_outside line_terminators refl c

pub words_outside : IsOutside (is_member word_characters)
words_outside c within = set_outside word_characters refl c

pub scalar_not_high : (c : ℕ) → IsScalar c → is_high_surrogate c ≡ false
scalar_not_high c s = grind (arith, nat_tests, s)

-- ---- reads

two_more : (n : ℕ) → n + 2 ≡ suc (n + 1)
two_more n = omega arith

-- the character before a position that is not the start
before_next : (text : List ℕ) (k : ℕ) →
    (of_characters text).before (suc k) ≡ option_map (λ c. record { character = c; position = k }) (slice_get text k)
before_next text k =
    let back_one : suc k - 1 ≡ k = omega arith in
    cond-false (suc k == 0) _ _ (ne_eqb (suc k) 0 (omega arith))
    ∙ ap (λ m. option_map (λ c. record { character = c; position = m }) (slice_get text m)) back_one

text_scalar : (text : List ℕ) → IsText text → (k c : ℕ) → slice_get text k ≡ Some c → c ≤ 0x10FFFF
text_scalar [] all k c e = absurd (cc)
text_scalar (x ∷ text) all zero c e =
    let same : x ≡ c = cc in
    subst (λ (d : ℕ). d ≤ 0x10FFFF) same (scalar_within x (All-head IsScalar x text all))
  where
    scalar_within : (x : ℕ) → IsScalar x → x ≤ 0x10FFFF
    scalar_within x s = grind (arith, nat_tests, s)
text_scalar (x ∷ text) all (suc k) c e = text_scalar text (All-tail IsScalar x text all) k c e

-- Code units are code points.
pub units_in_range : (text : List ℕ) → IsText text → All IsCodePoint (code_units text)
units_in_range [] all = All-nil IsCodePoint
units_in_range (c ∷ text) all =
    All-append IsCodePoint (encode_utf16 c) (code_units text) (elim (cases_lt c 0x1_0000) [
      | inl below ↦ subst (All IsCodePoint) (sym (one_unit c below)) (All-cons IsCodePoint c [] (omega (arith, below)) (All-nil IsCodePoint))
      | inr above ↦
          subst (All IsCodePoint) (sym (two_units c above))
          (All-cons IsCodePoint (lead c) (trail c ∷ []) (lead_within c (text_scalar (c ∷ text) all 0 c refl))
          (All-cons IsCodePoint (trail c) [] (trail_within c) (All-nil IsCodePoint)))
    ]) (units_in_range text (All-tail IsScalar c text all))

module _ (text : List ℕ) (is_text : IsText text) where
  abbrev units : List ℕ
  units = code_units text

  abbrev image : MatchState → MatchState
  image = unit_state text

  -- both code units of a character, and itself, fail the test
  record FailsAt (test : ℕ → Bool) (c : ℕ) : Type 0 where
    itself : test c ≡ false
    first : test (lead c) ≡ false
    second : test (trail c) ≡ false

  fails_at : (test : ℕ → Bool) → IsOutside test → (k c : ℕ) → IsTwo text k c → FailsAt test c
  fails_at test outside k c two =
      let within = text_scalar text is_text k c two.character in
      record {
        itself = fails test outside c within (beyond c two.above);
        first = fails test outside (lead c) (lead_within c within) (lead_inside c two.above within);
        second = fails test outside (trail c) (trail_within c) (trail_inside c);
      }

  module _ (test : ℕ → Bool) (outside : IsOutside test) where
    pub passes-after : (k : ℕ) → passes test ((of_characters units).after (unit_position text k)) ≡ passes test ((of_characters text).after k)
    passes-after k = elim (what_is_at text k) [
      | inl end ↦ rw (end.unit, end.character) refl
      | inr (c, inl one) ↦ rw (one.unit, one.character) refl
      | inr (c, inr two) ↦ let both = fails_at test outside k c two in rw (two.first, two.character) (both.first ∙ sym both.itself)
    ]

    -- the character before a position, over the code units
    before_one : (k c : ℕ) → unit_position text (suc k) ≡ suc (unit_position text k) → slice_get units (unit_position text k) ≡ Some c →
        (of_characters units).before (unit_position text (suc k)) ≡ Some (record { character = c; position = unit_position text k })
    before_one k c next unit =
        ap (of_characters units).before next ∙ before_next units (unit_position text k) ∙ ap (option_map (λ d. record { character = d; position = unit_position text k })) unit

    pub passes-before : (k : ℕ) → k ≤ length text →
        passes test ((of_characters units).before (unit_position text k)) ≡ passes test ((of_characters text).before k)
    passes-before zero within = refl
    passes-before (suc k) within = elim (what_is_at text k) [
      | inl end ↦ absurd (none-some _ (sym end.character ∙ slice_get-get_or text k 0 (omega arith)))
      | inr (c, inl one) ↦
          ap (passes test) (before_one k c (one.next ∙ omega arith) one.unit)
          ∙ sym (ap (passes test) (before_next text k ∙ ap (option_map (λ d. record { character = d; position = k })) one.character))
      | inr (c, inr two) ↦
          let both = fails_at test outside k c two in
          ap (λ (p : ℕ). passes test ((of_characters units).before p)) (two.next ∙ two_more (unit_position text k))
          ∙ ap (passes test) (before_next units (unit_position text k + 1) ∙ ap (option_map (λ d. record { character = d; position = unit_position text k + 1 })) two.second)
          ∙ both.second ∙ sym both.itself
          ∙ sym (ap (passes test) (before_next text k ∙ ap (option_map (λ d. record { character = d; position = k })) two.character))
    ]

    -- ---- a step

    module _ (s : MatchState) where
      moved_same : (c k f : ℕ) → f ≡ unit_position text k →
          moved test (image s) (Some (record { character = c; position = f })) ≡ map image (moved test s (Some (record { character = c; position = k })))
      moved_same c k f e = by_test (test c)
        where
          by_test : (b : Bool) → (if b then record (image s) { position = f } ∷ [] else []) ≡ map image (if b then record s { position = k } ∷ [] else [])
          by_test true = ap (λ (p : ℕ). record (image s) { position = p } ∷ []) e
          by_test false = refl

      moved_none : (t : MatchState) (c f : ℕ) → test c ≡ false → moved test t (Some (record { character = c; position = f })) ≡ []
      moved_none t c f e = rw e refl

      forwards_same : one_character forwards (of_characters units) test (image s) ≡ map image (one_character forwards (of_characters text) test s)
      unfolding one_character
      forwards_same = elim (what_is_at text s.position) [
        | inl end ↦ rw (end.unit, end.character) refl
        | inr (c, inl one) ↦
            rw (one.unit, one.character)
            (moved_same c (s.position + 1) (unit_position text s.position + 1) (sym one.next ∙ ap (unit_position text) (sym (add-one s.position))))
        | inr (c, inr two) ↦
            let both = fails_at test outside s.position c two in
            rw (two.first, two.character)
            (moved_none (image s) (lead c) _ both.first ∙ sym (ap (map image) (moved_none s c (s.position + 1) both.itself)))
      ]

      backwards_same : (k : ℕ) → s.position ≡ k → k ≤ length text →
          one_character backwards (of_characters units) test (image s) ≡ map image (one_character backwards (of_characters text) test s)
      unfolding one_character
      backwards_same zero at_start within = rw at_start refl
      backwards_same (suc k) at_next within =
          ap (λ (p : ℕ). moved test (image s) ((of_characters units).before (unit_position text p))) at_next
          ∙ by (what_is_at text k)
          ∙ sym (ap (λ (p : ℕ). map image (moved test s ((of_characters text).before p))) at_next)
        where
          by : IsAt text k →
              moved test (image s) ((of_characters units).before (unit_position text (suc k))) ≡ map image (moved test s ((of_characters text).before (suc k)))
          by (inl end) = absurd (none-some _ (sym end.character ∙ slice_get-get_or text k 0 (omega arith)))
          by (inr (c, inl one)) =
              ap (moved test (image s)) (before_one k c (one.next ∙ omega arith) one.unit)
              ∙ moved_same c k (unit_position text k) refl
              ∙ sym (ap (λ o. map image (moved test s o)) (before_next text k ∙ ap (option_map (λ d. record { character = d; position = k })) one.character))
          by (inr (c, inr two)) =
              let both = fails_at test outside k c two in
              ap (λ (p : ℕ). moved test (image s) ((of_characters units).before p)) (two.next ∙ two_more (unit_position text k))
              ∙ ap (moved test (image s)) (before_next units (unit_position text k + 1) ∙ ap (option_map (λ d. record { character = d; position = unit_position text k + 1 })) two.second)
              ∙ moved_none (image s) (trail c) (unit_position text k + 1) both.second
              ∙ sym (ap (λ o. map image (moved test s o)) (before_next text k ∙ ap (option_map (λ d. record { character = d; position = k })) two.character)
              ∙ ap (map image) (moved_none s c k both.itself))

      pub one_character-same : (d : Direction) → s.position ≤ length text →
          one_character d (of_characters units) test (image s) ≡ map image (one_character d (of_characters text) test s)
      one_character-same forwards within = forwards_same
      one_character-same backwards within = backwards_same s.position refl within

  -- ---- tests on a position

  pub hold_at-same : (p q : ℕ → Bool) (s : MatchState) → q (unit_position text s.position) ≡ p s.position → hold_at q (image s) ≡ map image (hold_at p s)
  unfolding hold_at
  hold_at-same p q s e = ap (λ (b : Bool). if b then image s ∷ [] else []) e ∙ by_test (p s.position)
    where
      by_test : (b : Bool) → (if b then image s ∷ [] else []) ≡ map image (if b then s ∷ [] else [])
      by_test true = refl
      by_test false = refl

  pub at_anchor-same : (kind : AnchorType) (multiline : Bool) (k : ℕ) → k ≤ length text →
      at_anchor (of_characters units) kind multiline (unit_position text k) ≡ at_anchor (of_characters text) kind multiline k
  at_anchor-same StartOfLine multiline k within =
      ap₂ (λ (a b : Bool). a || (multiline && b)) (unit_position-eq text k 0 within (omega arith))
      (passes-before is_line_terminator terminators_outside k within)
  at_anchor-same EndOfLine multiline k within =
      ap₂ (λ (a b : Bool). a || (multiline && b))
      (ap (λ (n : ℕ). unit_position text k == n) (sym (unit_position-length text)) ∙ unit_position-eq text k (length text) within (omega arith))
      (passes-after is_line_terminator terminators_outside k)

  pub at_boundary-same : (is_word : ℕ → Bool) → IsOutside is_word → (inverted : Bool) (k : ℕ) → k ≤ length text →
      at_boundary (of_characters units) is_word inverted (unit_position text k) ≡ at_boundary (of_characters text) is_word inverted k
  at_boundary-same is_word outside inverted k within =
      ap₂ (λ (a b : Bool). differ inverted (differ a b)) (passes-before is_word outside k within) (passes-after is_word outside k)
