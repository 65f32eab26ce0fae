-- Atoms whose characters are outside of pairs match the same over code units.
use Rattle.std.proofs.Common.{◌≡◌, ◌∙◌, ℕ, suc, ◌==◌, nat_le, Bool, true, false, not, ◌&&◌, ◌||◌, List, [], ◌∷◌, ◌++◌, length, map, Option, if◌then◌else◌, refl, sym, ap, ap₂, arith}
use Rattle.std.specs.List.{list_all}
use Rattle.std.proofs.lemmas.Bool.{and_parts, eqb-true, false≢true, le-leb, ne_eqb}
use Rattle.std.proofs.lemmas.List.{map-append}
use Rattle.regress_base.specs.Intervals.{Bounds, intervals_of}
use Rattle.regress_base.specs.Listing.{lists}
use Rattle.regress_base.specs.Table.{Table, class_of, denotes}
use Rattle.regress_base.specs.declared.types.Flags.{Flags}
use Rattle.regress_base.proofs.lemmas.Literals.{lists-class_of}
use Rattle.regress_base.proofs.lemmas.Sets.{intervals_of-member}
use Rattle.regress_tree.specs.Reading.{Direction, IsText, of_characters}
use Rattle.regress_tree.specs.Assertions.{at_anchor, at_boundary}
use Rattle.regress_tree.specs.References.{any_string}
use Rattle.regress_tree.specs.Steps.{MatchState, Matcher, IsStateOf, Setting, ◌or_◌, fail, one_character, stay}
use Rattle.regress_classes.specs.ClassProductions.{members_of}
use Rattle.regress_syntax.specs.Meaning.{is_literal, is_in_class, is_in_word, one_of_strings, longest_first, referred, reference_steps, atom_steps}
use Rattle.regress_syntax.specs.Syntax.{Name, is_joined, Atom, literal, dot, anchor, boundary, class_escape, class, class_set, string_property, back_reference}
use Rattle.regress_ecma.specs.CodeUnits.{code_units}
use Rattle.regress_ecma.specs.SurrogatePairs.{is_outside_pairs, are_outside_pairs, atom_is_outside}
use Rattle.regress_ecma.proofs.UnitSteps.{unit_state, IsOutside, set_outside, words_outside, one_character-same, hold_at-same, at_anchor-same, at_boundary-same}

pub listed_outside : (xs : List ℕ) (x : ℕ) → list_all is_outside_pairs xs ≡ true → lists xs x ≡ true → is_outside_pairs x ≡ true
listed_outside [] x all member = absurd (false≢true member)
listed_outside (y ∷ ys) x all member =
    let parts = and_parts (is_outside_pairs y) (list_all is_outside_pairs ys) all in
    by_test (y == x) refl member (listed_outside ys x parts.1)
  where
    by_test : (b : Bool) → (y == x) ≡ b → (b || lists ys x) ≡ true → (lists ys x ≡ true → is_outside_pairs x ≡ true) → is_outside_pairs x ≡ true
    by_test true e h later = ap is_outside_pairs (sym (eqb-true y x e)) ∙ (and_parts (is_outside_pairs y) (list_all is_outside_pairs ys) all).0
    by_test false e h later = later h

pub intervals_outside : (test : ℕ → Bool) → are_outside_pairs (intervals_of test) ≡ true → IsOutside test
intervals_outside test all c within passes = set_outside (intervals_of test) all c (intervals_of-member test c within ∙ passes)

pub literal_outside : (table : Table) (all : List (Option Name)) (flags : Flags) (c : ℕ) → atom_is_outside table all (literal flags c) ≡ true → IsOutside (is_literal table flags c)
literal_outside table all flags c outside x within = by_test flags.icase refl outside
  where
    by_test : (i : Bool) → flags.icase ≡ i → (if i then list_all is_outside_pairs (class_of table true flags.unicode c) else is_outside_pairs c) ≡ true →
        is_literal table flags c x ≡ true → is_outside_pairs x ≡ true
    by_test true e all passes =
        let denoted : denotes table true flags.unicode c x ≡ true = sym (ap (λ (i : Bool). denotes table i flags.unicode c x) e) ∙ passes in
        listed_outside (class_of table true flags.unicode c) x all
        (lists-class_of table true flags.unicode c x ∙ ap (λ (b : Bool). nat_le x 0x10FFFF && b) denoted
        ∙ ap (λ (b : Bool). b && true) (le-leb x 0x10FFFF within))
    by_test false e one passes =
        let denoted : denotes table false flags.unicode c x ≡ true = sym (ap (λ (i : Bool). denotes table i flags.unicode c x) e) ∙ passes in
        let same : x ≡ c = same_character x c denoted in
        ap is_outside_pairs same ∙ one
      where
        same_character : (x c : ℕ) → denotes table false flags.unicode c x ≡ true → x ≡ c
        same_character x c h = eqb-true x c h

pub class_outside : (table : Table) (flags : Flags) (inverted : Bool) (members : List Bounds) →
    (not inverted && are_outside_pairs (intervals_of (is_in_class table flags false members))) ≡ true →
    IsOutside (is_in_class table flags inverted members)
class_outside table flags true members outside = absurd (false≢true outside)
class_outside table flags false members outside = intervals_outside (is_in_class table flags false members) outside

pub word_outside : (table : Table) (flags : Flags) → not (flags.unicode && flags.icase) ≡ true → IsOutside (is_in_word table flags)
word_outside table flags plain c within passes = by_test (flags.unicode && flags.icase) refl plain
  where
    by_test : (b : Bool) → (flags.unicode && flags.icase) ≡ b → not b ≡ true → is_outside_pairs c ≡ true
    by_test true e h = absurd (false≢true h)
    by_test false e h = words_outside c within (rw e at passes)

module _ (setting : Setting) (all : List (Option Name)) (text : List ℕ) (is_text : IsText text) where
  abbrev units : List ℕ
  units = code_units text

  -- a class with the flag v and without strings
  class_set-same : (flags : Flags) (negated : Bool) (members : List Bounds) (strings : List (List ℕ)) (has_empty : Bool) → (length strings == 0) ≡ true →
      (not negated && are_outside_pairs (intervals_of (is_in_class setting.table flags false members))) ≡ true → (d : Direction) (s : MatchState) →
      IsStateOf text s →
      (one_of_strings setting all units d flags (longest_first strings) or_ one_character d (of_characters units) (is_in_class setting.table flags negated members)
      or_ (if has_empty then stay else fail)) (unit_state text s)
      ≡ map (unit_state text)
      ((one_of_strings setting all text d flags (longest_first strings) or_ one_character d (of_characters text) (is_in_class setting.table flags negated members)
      or_ (if has_empty then stay else fail)) s)
  unfolding any_string
  class_set-same flags negated members (string ∷ strings) has_empty none outside d s in' =
      absurd (false≢true (sym (ne_eqb (suc (length strings)) 0 (omega arith)) ∙ none))
  class_set-same flags negated members [] has_empty none outside d s in' =
      ap₂ (λ (a b : List MatchState). a ++ b)
      (one_character-same text is_text (is_in_class setting.table flags negated members) (class_outside setting.table flags negated members outside) s d in'.position)
      (by_test has_empty)
      ∙ sym (map-append (unit_state text) (one_character d (of_characters text) (is_in_class setting.table flags negated members) s) ((if has_empty then stay else fail) s))
    where
      by_test : (b : Bool) → (if b then stay else fail) (unit_state text s) ≡ map (unit_state text) ((if b then stay else fail) s)
      by_test true = refl
      by_test false = refl

  -- a reference to no group
  reference-same : (joined : Bool) (ks : List ℕ) (refer refer' : ℕ → Matcher) → (length ks == 0) ≡ true → (s : MatchState) →
      reference_steps joined refer' ks (unit_state text s) ≡ map (unit_state text) (reference_steps joined refer ks s)
  reference-same true [] refer refer' none s = refl
  reference-same false [] refer refer' none s = refl
  reference-same joined (k ∷ ks) refer refer' none s = absurd (false≢true (sym (ne_eqb (suc (length ks)) 0 (omega arith)) ∙ none))

  pub atom-same : (a : Atom) → atom_is_outside setting.table all a ≡ true → (d : Direction) (s : MatchState) → IsStateOf text s →
      atom_steps setting all units d a (unit_state text s) ≡ map (unit_state text) (atom_steps setting all text d a s)
  atom-same (literal flags c) outside d s in' =
      one_character-same text is_text (is_literal setting.table flags c) (literal_outside setting.table all flags c outside) s d in'.position
  atom-same (dot flags) outside d s in' = absurd (false≢true outside)
  atom-same (anchor flags kind) outside d s in' =
      hold_at-same text is_text (at_anchor (of_characters text) kind flags.multiline) (at_anchor (of_characters units) kind flags.multiline) s
      (at_anchor-same text is_text kind flags.multiline s.position in'.position)
  atom-same (boundary flags inverted) outside d s in' =
      hold_at-same text is_text (at_boundary (of_characters text) (is_in_word setting.table flags) inverted)
      (at_boundary (of_characters units) (is_in_word setting.table flags) inverted) s
      (at_boundary-same text is_text (is_in_word setting.table flags) (word_outside setting.table flags outside) inverted s.position in'.position)
  atom-same (class_escape flags kind negated) outside d s in' =
      one_character-same text is_text (is_in_class setting.table flags negated (members_of kind))
      (intervals_outside (is_in_class setting.table flags negated (members_of kind)) outside) s d in'.position
  atom-same (class flags inverted members) outside d s in' =
      one_character-same text is_text (is_in_class setting.table flags inverted members) (class_outside setting.table flags inverted members outside)
      s d in'.position
  atom-same (class_set flags negated value) outside d s in' =
      let parts = and_parts (length value.strings == 0) (not negated && are_outside_pairs (intervals_of (is_in_class setting.table flags false value.members))) outside in
      class_set-same flags negated value.members value.strings value.has_empty parts.0 parts.1 d s in'
  atom-same (string_property flags written) outside d s in' = absurd (false≢true outside)
  atom-same (back_reference flags to) outside d s in' = reference-same (is_joined to) (referred all to) _ _ outside s
