-- Offsets in UTF-8 of indices of a string are those of the positions of its text.
use Rattle.std.proofs.Common.{◌≡◌, ◌∙◌, ℕ, zero, suc, ◌+◌, ◌<◌, ◌≤◌, true, List, [], ◌∷◌, ◌++◌, All, encode_utf8_all, length, map, take, Option, Some, None, option_map, refl, sym, ap, ap₂, subst, arith}
use Rattle.std.proofs.Math.Seq.{take-append-add}
use Rattle.std.proofs.lemmas.List.{length-append}
use Rattle.std.proofs.lemmas.List.Elements.{All-nil, All-cons, All-head, All-tail}
use Rattle.std.proofs.lemmas.Option.{none-some, same_Some}
use Rattle.std.specs.Char.{IsScalar}
use Rattle.std.specs.Char.Escape.{encode_utf16}
use Rattle.regress_tree.specs.Reading.{IsText, byte_position}
use Rattle.regress_tree.specs.Steps as Steps
use Rattle.regress_tree.specs.Steps.{CaptureSpan, byte_capture}
use Rattle.regress_ecma.specs.Notation.{MatchResult, MatchState}
use Rattle.regress_ecma.specs.CodeUnits.{code_points, code_units, found_in_units, found_in_utf8, unit_capture, unit_position, utf8_capture, utf8_offset}
use Rattle.regress_ecma.specs.Exec.{Found, first_match, found_in_bytes, or_later}
use Rattle.regress_ecma.proofs.CodeUnits.{by_itself, text_with_u, with_u}
use Rattle.regress_ecma.proofs.UnitSteps.{scalar_not_high}

-- ---- prefixes

take-text : (k : ℕ) (text : List ℕ) → IsText text → IsText (take k text)
take-text zero text all = All-nil IsScalar
take-text (suc k) [] all = All-nil IsScalar
take-text (suc k) (c ∷ text) all = All-cons IsScalar c (take k text) (All-head IsScalar c text all) (take-text k text (All-tail IsScalar c text all))

-- the code points of a text, as a string, are its characters
text_stays : (text : List ℕ) → IsText text → code_points text ≡ text
unfolding code_points
text_stays [] all = refl
text_stays (c ∷ text) all =
    by_itself c text (scalar_not_high c (All-head IsScalar c text all)) ∙ ap (λ (rest : List ℕ). c ∷ rest) (text_stays text (All-tail IsScalar c text all))

prefix-units : (k : ℕ) (text : List ℕ) → take (unit_position text k) (code_units text) ≡ code_units (take k text)
prefix-units zero text = refl
prefix-units (suc k) [] = refl
prefix-units (suc k) (c ∷ text) =
    ap (λ (n : ℕ). take n (code_units (c ∷ text))) (length-append (encode_utf16 c) (code_units (take k text)))
    ∙ take-append-add (encode_utf16 c) (code_units text) (unit_position text k)
    ∙ ap (λ (rest : List ℕ). encode_utf16 c ++ rest) (prefix-units k text)

-- ---- offsets

offset-text : (text : List ℕ) → IsText text → (k : ℕ) → utf8_offset text k ≡ byte_position text k
unfolding byte_position
offset-text text is_text k = ap (λ (cs : List ℕ). length (encode_utf8_all cs)) (text_stays (take k text) (take-text k text is_text))

offset-units : (text : List ℕ) → IsText text → (k : ℕ) → utf8_offset (code_units text) (unit_position text k) ≡ byte_position text k
unfolding byte_position
offset-units text is_text k =
    let prefix = take-text k text is_text in
    ap (λ (us : List ℕ). length (encode_utf8_all (code_points us))) (prefix-units k text)
    ∙ ap (λ (cs : List ℕ). length (encode_utf8_all cs)) (with_u (take k text) (text_with_u (take k text) prefix))

-- ---- matches

captures-text : (text : List ℕ) → IsText text → (captures : List (Option CaptureSpan)) → map (utf8_capture text) captures ≡ map (byte_capture text) captures
captures-text text is_text [] = refl
captures-text text is_text (None ∷ captures) = ap (λ (cs : List (Option CaptureSpan)). None ∷ cs) (captures-text text is_text captures)
captures-text text is_text (Some span ∷ captures) =
    ap₂ (λ (c : Option CaptureSpan) (cs : List (Option CaptureSpan)). c ∷ cs)
    (ap₂ (λ (a b : ℕ). Some (a, b)) (offset-text text is_text span.0) (offset-text text is_text span.1)) (captures-text text is_text captures)

captures-units : (text : List ℕ) → IsText text → (captures : List (Option CaptureSpan)) →
    map (utf8_capture (code_units text)) (map (unit_capture text) captures) ≡ map (byte_capture text) captures
captures-units text is_text [] = refl
captures-units text is_text (None ∷ captures) = ap (λ (cs : List (Option CaptureSpan)). None ∷ cs) (captures-units text is_text captures)
captures-units text is_text (Some span ∷ captures) =
    ap₂ (λ (c : Option CaptureSpan) (cs : List (Option CaptureSpan)). c ∷ cs)
    (ap₂ (λ (a b : ℕ). Some (a, b)) (offset-units text is_text span.0) (offset-units text is_text span.1)) (captures-units text is_text captures)

state-of : (a b : ℕ) (cs ds : List (Option CaptureSpan)) → a ≡ b → cs ≡ ds →
    ◌≡◌ {A = Steps.MatchState} (record { position = a; captures = cs }) (record { position = b; captures = ds })
state-of a b cs ds e f = ap₂ (λ (n : ℕ) (xs : List (Option CaptureSpan)). record { position = n; captures = xs }) e f

-- what is found in a text
pub found-text : (text : List ℕ) → IsText text → (found : Found) → found.1.input ≡ text → found_in_utf8 found ≡ found_in_bytes found
found-text text is_text (index, x) on =
    let here : IsText x.input = subst IsText (sym on) is_text in
    ap₂ (λ (n : ℕ) (s : Steps.MatchState). (n, s)) (offset-text x.input here index)
    (state-of _ _ _ _ (offset-text x.input here x.end_index) (captures-text x.input here x.captures))

pub found-units : (text : List ℕ) → IsText text → (found : Found) → found.1.input ≡ text → found_in_utf8 (found_in_units text found) ≡ found_in_bytes found
found-units text is_text (index, x) on =
    ap₂ (λ (n : ℕ) (s : Steps.MatchState). (n, s)) (offset-units text is_text index)
    (state-of _ _ _ _ (offset-units text is_text x.end_index) (captures-units text is_text x.captures))
    ∙ ap (λ (t : List ℕ). (byte_position t index, record { position = byte_position t x.end_index; captures = map (byte_capture t) x.captures })) (sym on)

-- ---- what a search finds is on its text

module _ (text : List ℕ) (at : ℕ → MatchResult) where
  pub first_on : (n index : ℕ) → ((k : ℕ) → index ≤ k → k < index + n → (x : MatchState) → at k ≡ Some x → x.input ≡ text) →
      (found : Found) → first_match at n index ≡ Some found → found.1.input ≡ text
  unfolding first_match
  first_on zero index on found e = absurd (none-some found e)
  first_on (suc n) index on found e =
      by_result (first_on n (index + 1) (λ k above below. on k (omega arith) (omega arith)) found) (on index (omega arith) (omega arith)) (at index) refl e
    where
      by_result : (first_match at n (index + 1) ≡ Some found → found.1.input ≡ text) → ((x : MatchState) → at index ≡ Some x → x.input ≡ text) →
          (r : MatchResult) → at index ≡ r → or_later index r (first_match at n (index + 1)) ≡ Some found → found.1.input ≡ text
      by_result later here None f h = later h
      by_result later here (Some x) f h = subst (λ (y : Found). y.1.input ≡ text) (same_Some (index, x) found h) (here x f)

-- the same of each match that is found
pub mapped_same : {B : Type 0} (f g : Found → B) (r : Option Found) → ((found : Found) → r ≡ Some found → f found ≡ g found) → option_map f r ≡ option_map g r
mapped_same f g None same = refl
mapped_same f g (Some found) same = ap Some (same found refl)
