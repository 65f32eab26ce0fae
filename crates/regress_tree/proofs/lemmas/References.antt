-- Back references, over the bytes of a text and over its characters.
use Rattle.std.proofs.Common.{◌≡◌, ℕ, zero, suc, ◌+◌, ◌-◌, ◌<◌, ◌≤◌, Bool, List, [], ◌∷◌, length, Option, Some, None, option_map, slice_index, get_or, All, encode_utf8_all, refl, sym, ap, subst, ◌∙◌, ⊎_elim, arith}
use Rattle.std.proofs.Math.ListN.{get_or-map}
use Rattle.std.proofs.lemmas.List.Elements.{All-head, All-tail}
use Rattle.std.proofs.lemmas.Bool.{cases_lt, lt-ltb, le-ltb, cond-true, cond-false}
use Rattle.regress_tree.specs.Reading.{Direction, Reading, IsText, of_characters, of_bytes, byte_position}
use Rattle.regress_tree.specs.Steps.{MatchState, CaptureSpan, IsStateOf, IsCaptureOf, byte_state, byte_capture}
use Rattle.regress_tree.specs.References.{read_with, characters_from, all_of, in_order, match_again, back_reference}
use Rattle.regress_tree.proofs.lemmas.Characters.{byte_position-add-le, byte_position-le, byte_position-lt}
use Rattle.regress_tree.proofs.lemmas.Readings.{byte_read, read_after-byte_position, after_within}
use Rattle.regress_tree.proofs.lemmas.Simulation.{Simulates, Simulates-stay, Simulates-then, Simulates-one_character}

-- ---- the characters of a span

characters_from-none : (r : Reading) (n k end : ℕ) → end ≤ k → characters_from r n k end ≡ []
characters_from-none r zero k end h = refl
characters_from-none r (suc n) k end h = cond-false _ _ _ (le-ltb k end h)

module _ (text : List ℕ) (is_text : IsText text) where
  -- one more character, over bytes
  byte_characters-more : (n k end : ℕ) → k < end → end ≤ length text →
      characters_from (of_bytes (encode_utf8_all text)) (suc n) (byte_position text k) (byte_position text end)
      ≡ slice_index text k ∷ characters_from (of_bytes (encode_utf8_all text)) n (byte_position text (k + 1)) (byte_position text end)
  byte_characters-more n k end h within =
      cond-true _ _ _ (lt-ltb _ _ (byte_position-lt text k end h within))
      ∙ ap (read_with (λ j. characters_from (of_bytes (encode_utf8_all text)) n j (byte_position text end)))
      (read_after-byte_position text is_text k (omega arith) ∙ ap (option_map (byte_read text)) (after_within text k (omega arith)))

  -- and over characters
  characters-more : (n k end : ℕ) → k < end → end ≤ length text →
      characters_from (of_characters text) (suc n) k end ≡ slice_index text k ∷ characters_from (of_characters text) n (k + 1) end
  characters-more n k end h within =
      cond-true _ _ _ (lt-ltb k end h)
      ∙ ap (read_with (λ j. characters_from (of_characters text) n j end)) (after_within text k (omega arith))

  -- If the bounds suffice, the bytes between two positions decode to the characters between them.
  characters_from-byte_position : (n m k end : ℕ) → k ≤ end → end ≤ length text → end ≤ k + n → end ≤ k + m →
      characters_from (of_bytes (encode_utf8_all text)) n (byte_position text k) (byte_position text end)
      ≡ characters_from (of_characters text) m k end
  characters_from-byte_position zero m k end h within reach_n reach_m = sym (characters_from-none (of_characters text) m k end (omega arith))
  characters_from-byte_position (suc n) zero k end h within reach_n reach_m =
      characters_from-none (of_bytes (encode_utf8_all text)) (suc n) _ _ (byte_position-le text end k (omega arith) (omega arith))
  characters_from-byte_position (suc n) (suc m) k end h within reach_n reach_m =
      ⊎_elim
      (λ (below : k < end).
      byte_characters-more n k end below within
      ∙ ap (λ cs. slice_index text k ∷ cs)
      (characters_from-byte_position n m (k + 1) end (omega arith) within (omega arith) (omega arith))
      ∙ sym (characters-more m k end below within))
      (λ (past : end ≤ k).
      characters_from-none (of_bytes (encode_utf8_all text)) (suc n) _ _ (byte_position-le text end k past (omega arith))
      ∙ sym (characters_from-none (of_characters text) (suc m) k end past))
      (cases_lt k end)

  module _ (d : Direction) (same : ℕ → ℕ → Bool) where
    pub Simulates-all_of : (cs : List ℕ) →
        Simulates text d (all_of d (of_characters text) same cs) (all_of d (of_bytes (encode_utf8_all text)) same cs)
    Simulates-all_of [] = Simulates-stay text d
    Simulates-all_of (c ∷ cs) =
        Simulates-then text d _ _ _ _ (Simulates-one_character text is_text d (same c)) (Simulates-all_of cs)

    -- the text of a span, by positions and by byte offsets
    Simulates-match_again : (span : Option CaptureSpan) → IsCaptureOf text span →
        Simulates text d (match_again d (of_characters text) same span)
        (match_again d (of_bytes (encode_utf8_all text)) same (byte_capture text span))
    Simulates-match_again None h = Simulates-stay text d
    Simulates-match_again (Some span) h =
        let sim = Simulates-all_of (in_order d (characters_from (of_characters text) (span.1 - span.0) span.0 span.1)) in
        let counted = byte_position-add-le text span.0 span.1 h.ordered h.within in
        let characters = characters_from-byte_position (byte_position text span.1 - byte_position text span.0) (span.1 - span.0) span.0 span.1
        h.ordered h.within (omega (arith, counted)) (omega arith) in
        subst
        (λ cs. Simulates text d (match_again d (of_characters text) same (Some span))
        (all_of d (of_bytes (encode_utf8_all text)) same (in_order d cs)))
        (sym characters) sim

-- The capture of a group, if there is one, is inside the text.
capture-within : (text : List ℕ) (id : ℕ) (captures : List (Option CaptureSpan)) → All (IsCaptureOf text) captures → IsCaptureOf text (get_or captures id None)
capture-within text id [] all = tt
capture-within text zero (c ∷ captures) all = All-head (IsCaptureOf text) c captures all
capture-within text (suc id) (c ∷ captures) all = capture-within text id captures (All-tail (IsCaptureOf text) c captures all)

pub Simulates-back_reference : (text : List ℕ) → IsText text → (d : Direction) (same : ℕ → ℕ → Bool) (id : ℕ) →
    Simulates text d (back_reference d (of_characters text) same id) (back_reference d (of_bytes (encode_utf8_all text)) same id)
unfolding back_reference
Simulates-back_reference text is_text d same id = record {
  same = λ s in'.
      ap (λ span. match_again d (of_bytes (encode_utf8_all text)) same span (byte_state text s))
      (get_or-map (byte_capture text) s.captures id None)
      ∙ (sim s in').same s in';
  reached = λ s in'. (sim s in').reached s in';
}
  where
    sim : (s : MatchState) → IsStateOf text s →
        Simulates text d (match_again d (of_characters text) same (get_or s.captures id None))
        (match_again d (of_bytes (encode_utf8_all text)) same (byte_capture text (get_or s.captures id None)))
    sim s in' = Simulates-match_again text is_text d same _ (capture-within text id s.captures in'.captures)
