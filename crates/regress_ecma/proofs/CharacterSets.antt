-- Characters: what a set matches in the dialect and in ECMA-262.
use Rattle.std.proofs.Common.{◌≡◌, ℕ, zero, suc, ◌+◌, ◌-◌, ◌<◌, ◌≤◌, min, nat_le, ◌==◌, Bool, true, false, not, All, List, [], ◌∷◌, length, slice_get, Option, Some, None, option_map, IfSome, if◌then◌else◌, refl, sym, ap, ◌∙◌, arith, ⊎_elim}
use Rattle.std.specs.Option.{option_or}
use Rattle.std.proofs.lemmas.Bool.{cases_lt}
use Rattle.std.proofs.lemmas.Bool.Decides.{nat_tests}
use Rattle.std.proofs.lemmas.List.Elements.{All-cons, All-head, All-nil, All-tail}
use Rattle.std.proofs.lemmas.Option.{slice_get_past}
use Rattle.regress_base.specs.Intervals.{is_member}
use Rattle.regress_base.specs.Table.{Table}
use Rattle.regress_base.specs.declared.types.Flags.{Flags}
use Rattle.regress_tree.specs.Assertions.{differ, passes}
use Rattle.regress_tree.specs.Reading.{Direction, forwards, backwards, Read, next_character, of_characters}
use Rattle.regress_tree.specs.Steps as Steps
use Rattle.regress_tree.specs.Steps.{IsStateOf, moved}
use Rattle.regress_tree.proofs.lemmas.Readings.{IsOnward, next_character-within}
use Rattle.regress_tree.proofs.lemmas.Simulation.{IsReached}
use Rattle.regress_lexer.specs.Source.{IsCodePoint}
use Rattle.regress_ecma.specs.Notation.{CharSet, MatchResult, failure, Continuation}
use Rattle.regress_ecma.specs.CharacterMatchers.{is_found, match_character, character_set_matcher}
use Rattle.regress_ecma.specs.Assertions.{index_before, is_in_at}
use Rattle.regress_ecma.specs.Compared.{state_on}
use Rattle.regress_ecma.proofs.Bridge.{first_result, Agrees, or_failure}

-- ---- one character

text_character : (text : List ℕ) → All IsCodePoint text → (k ch : ℕ) → slice_get text k ≡ Some ch → IsCodePoint ch
text_character [] all k ch e = absurd (cc)
text_character (x ∷ text) all zero ch e =
    let same : x ≡ ch = cc in
    let head = All-head IsCodePoint x text all in rw same at head
text_character (x ∷ text) all (suc k) ch e = text_character text (All-tail IsCodePoint x text all) k ch e

-- What a step over a character reaches is inside the text.
module _ (text : List ℕ) (d : Direction) (test : ℕ → Bool) (s : Steps.MatchState) (in' : IsStateOf text s) where
  if-reached : (b : Bool) (k : ℕ) → k ≤ length text → IsOnward d s.position k →
      All (IsReached text d s) (if b then record s { position = k } ∷ [] else [])
  if-reached true k within onward =
      All-cons (IsReached text d s) _ [] (record { state = record { position = within; captures = in'.captures }; onward = onward })
      (All-nil (IsReached text d s))
  if-reached false k within onward = All-nil (IsReached text d s)

  moved-reached : (read : Option Read) → IfSome read (λ r. (r.position ≤ length text) × IsOnward d s.position r.position) →
      All (IsReached text d s) (moved test s read)
  moved-reached None within = All-nil (IsReached text d s)
  moved-reached (Some read) within = if-reached (test read.character) read.position within.0 within.1

pub one_character-reached : (text : List ℕ) (d : Direction) (test : ℕ → Bool) (s : Steps.MatchState) → IsStateOf text s →
    All (IsReached text d s) (Steps.one_character d (of_characters text) test s)
unfolding Steps.one_character
one_character-reached text d test s in' =
    moved-reached text d test s in' (next_character d (of_characters text) s.position) (next_character-within text d s.position in'.position)

module _ (table : Table) (rer : Flags) (set : CharSet) (invert : Bool) (test : ℕ → Bool) where
  -- The set has the members that pass the test, or with invert the others.
  abbrev pub IsSetOf : Type 0
  IsSetOf = (ch : ℕ) → IsCodePoint ch → differ invert (is_found table rer set ch) ≡ test ch

  failed_same : (i b t : Bool) (r : MatchResult) → differ i b ≡ t →
      (if (if i then b else not b) then failure else r) ≡ option_or (if t then r else failure) failure
  failed_same true true t r e = rw (sym e) refl
  failed_same true false t r e = rw (sym e) (sym (or_failure r))
  failed_same false true t r e = rw (sym e) (sym (or_failure r))
  failed_same false false t r e = rw (sym e) refl

  moved_same : (text : List ℕ) (s : Steps.MatchState) (c : Continuation) (ch f : ℕ) → differ invert (is_found table rer set ch) ≡ test ch →
      match_character table rer set invert f (Some ch) (state_on text s) c
      ≡ first_result text c (moved test s (Some (record { character = ch; position = f })))
  moved_same text s c ch f e =
      failed_same invert (is_found table rer set ch) (test ch) (c (state_on text (record s { position = f }))) e ∙ by_test (test ch)
    where
      by_test : (t : Bool) →
          option_or (if t then c (state_on text (record s { position = f })) else failure) failure
          ≡ first_result text c (if t then record s { position = f } ∷ [] else [])
      by_test true = refl
      by_test false = refl

  module _ (text : List ℕ) (is_text : All IsCodePoint text) (is_set : IsSetOf) where
    -- the character at index k, or none
    read_same : (s : Steps.MatchState) (c : Continuation) (f : ℕ) (read : Option ℕ) → ((ch : ℕ) → read ≡ Some ch → IsCodePoint ch) →
        match_character table rer set invert f read (state_on text s) c
        ≡ first_result text c (moved test s (option_map (λ ch. record { character = ch; position = f }) read))
    read_same s c f None scalar = refl
    read_same s c f (Some ch) scalar = moved_same text s c ch f (is_set ch (scalar ch refl))

    -- from the index on the other side, or none
    abbrev from_index : Steps.MatchState → Continuation → Option ℕ → MatchResult
    from_index s c o =
        elim o [
          | None ↦ failure
          | Some f ↦ match_character table rer set invert f (slice_get text (min s.position f)) (state_on text s) c
        ]

    from_index_same : (s : Steps.MatchState) (c : Continuation) (f i : ℕ) → min s.position f ≡ i →
        from_index s c (Some f)
        ≡ first_result text c (moved test s (option_map (λ ch. record { character = ch; position = f }) (slice_get text i)))
    from_index_same s c f i e =
        ap (λ (j : ℕ). match_character table rer set invert f (slice_get text j) (state_on text s) c) e
        ∙ read_same s c f (slice_get text i) (text_character text is_text i)

    forwards_same : (s : Steps.MatchState) (c : Continuation) →
        character_set_matcher table rer set invert forwards (state_on text s) c
        ≡ first_result text c (Steps.one_character forwards (of_characters text) test s)
    unfolding character_set_matcher Steps.one_character
    forwards_same s c =
        ⊎_elim
        (λ (below : s.position < length text).
        let within : nat_le (s.position + 1) (length text) ≡ true = grind (arith, nat_tests) in
        ap (λ (b : Bool). from_index s c (if b then Some (s.position + 1) else None)) within
        ∙ from_index_same s c (s.position + 1) s.position (omega arith))
        (λ (past : length text ≤ s.position).
        let outside : nat_le (s.position + 1) (length text) ≡ false = grind (arith, nat_tests) in
        ap (λ (b : Bool). from_index s c (if b then Some (s.position + 1) else None)) outside
        ∙ ap (λ (read : Option ℕ). first_result text c (moved test s (option_map (λ ch. record { character = ch; position = s.position + 1 }) read)))
        (sym (slice_get_past text s.position past)))
        (cases_lt s.position (length text))

    backwards_same : (s : Steps.MatchState) (c : Continuation) →
        character_set_matcher table rer set invert backwards (state_on text s) c
        ≡ first_result text c (Steps.one_character backwards (of_characters text) test s)
    unfolding character_set_matcher Steps.one_character
    backwards_same s c =
        ⊎_elim
        (λ (start : s.position < 1).
        let outside : nat_le 1 s.position ≡ false = grind (arith, nat_tests) in
        let none : (s.position == 0) ≡ true = grind (arith, nat_tests) in
        ap (λ (b : Bool). from_index s c (if b then Some (s.position - 1) else None)) outside
        ∙ ap (λ (b : Bool). first_result text c (moved test s (if b then None else option_map (λ ch. record { character = ch; position = s.position - 1 }) (slice_get text (s.position - 1))))) (sym none))
        (λ (later : 1 ≤ s.position).
        let within : nat_le 1 s.position ≡ true = grind (arith, nat_tests) in
        let some : (s.position == 0) ≡ false = grind (arith, nat_tests) in
        ap (λ (b : Bool). from_index s c (if b then Some (s.position - 1) else None)) within
        ∙ from_index_same s c (s.position - 1) (s.position - 1) (omega arith)
        ∙ ap (λ (b : Bool). first_result text c (moved test s (if b then None else option_map (λ ch. record { character = ch; position = s.position - 1 }) (slice_get text (s.position - 1))))) (sym some))
        (cases_lt s.position 1)

    pub Agrees-character : (d : Direction) →
        Agrees text d (Steps.one_character d (of_characters text) test) (character_set_matcher table rer set invert d)
    Agrees-character forwards = record {
      same = λ s in' c. forwards_same s c;
      reached = one_character-reached text forwards test;
    }
    Agrees-character backwards = record {
      same = λ s in' c. backwards_same s c;
      reached = one_character-reached text backwards test;
    }

-- ---- the characters beside a position

module _ (text : List ℕ) (is_text : All IsCodePoint text) (set : CharSet) (test : ℕ → Bool) (same : (ch : ℕ) → IsCodePoint ch → is_member set ch ≡ test ch) where
  read_passes : (f : ℕ) (read : Option ℕ) → ((ch : ℕ) → read ≡ Some ch → IsCodePoint ch) →
      elim read [ None ↦ false | Some ch ↦ is_member set ch ] ≡ passes test (option_map (λ ch. record { character = ch; position = f }) read)
  read_passes f None scalar = refl
  read_passes f (Some ch) scalar = same ch (scalar ch refl)

  pub passes-after : (k : ℕ) → is_in_at set text (Some k) ≡ passes test ((of_characters text).after k)
  passes-after k = read_passes (k + 1) (slice_get text k) (text_character text is_text k)

  pub passes-before : (k : ℕ) → is_in_at set text (index_before k) ≡ passes test ((of_characters text).before k)
  passes-before k = by_test (k == 0)
    where
      by_test : (b : Bool) →
          is_in_at set text (if b then None else Some (k - 1))
          ≡ passes test (if b then None else option_map (λ ch. record { character = ch; position = k - 1 }) (slice_get text (k - 1)))
      by_test true = refl
      by_test false = read_passes (k - 1) (slice_get text (k - 1)) (text_character text is_text (k - 1))
