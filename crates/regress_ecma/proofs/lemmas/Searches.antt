-- A search over the bytes of a text finds what RegExpBuiltinExec does over its characters.
use Rattle.std.proofs.Common.{◌≡◌, ℕ, zero, suc, ◌+◌, ◌-◌, ◌<◌, ◌≤◌, All, List, [], ◌∷◌, ◌++◌, length, take, drop, map, slice_get, Option, Some, None, option_map, encode_utf8_all, refl, sym, ap, ap₂, ◌∙◌, ⊎_elim, true, arith}
use Rattle.std.proofs.Math.ListN.{replicate}
use Rattle.std.proofs.Math.Utf8.{scalar, scalars}
use Rattle.std.proofs.lemmas.Bool.{and_from, and_parts, cases_lt}
use Rattle.std.proofs.lemmas.List.{take-append-drop, length-take-le, length-append, take_at}
use Rattle.std.proofs.lemmas.List.Elements.{All-nil, All-cons, All-head, All-tail, All-drop, All-replicate, All-weaker}
use Rattle.std.proofs.lemmas.Option.{slice_get-map}
use Rattle.std.proofs.lemmas.Str.{IsUtf8-take, IsUtf8-drop, IsCharBoundary-at_seam, encodes-append, encodes_same, scalars-chars}
use Rattle.std.specs.Char.{IsScalar}
use Rattle.std.specs.Str.{IsUtf8, IsCharBoundary, chars}
use Rattle.regress_tree.specs.Matching.{matches}
use Rattle.regress_tree.specs.Reading.{IsText, byte_position, forwards}
use Rattle.regress_tree.specs.Steps as Steps
use Rattle.regress_tree.specs.Steps.{IsStateOf, IsCaptureOf, byte_capture, byte_state, Setting}
use Rattle.regress_tree.specs.Tree.{Tree}
use Rattle.regress_tree.specs.WellFormed.{captures}
use Rattle.regress_tree.proofs.lemmas.Characters.{byte_position-le, byte_position-lt}
use Rattle.regress_base.proofs.lemmas.Literals.{scalar_in_range}
use Rattle.regress_lexer.specs.Source.{IsCodePoint}
use Rattle.regress_syntax.specs.Meaning.{meaning}
use Rattle.regress_syntax.specs.Syntax.{Pattern, names}
use Rattle.regress_ecma.specs.Notation.{MatchState, MatchResult}
use Rattle.regress_ecma.specs.Compared.{IsComparable, state_on}
use Rattle.regress_ecma.specs.Exec.{match_at, or_later, first_match, builtin_exec, in_bytes, found_in_bytes}
use Rattle.regress_ecma.proofs.Theorem.{pattern_outcome}

-- ---- the first match

pub first_same : (at at' : ℕ → MatchResult) (n index : ℕ) → ((k : ℕ) → index ≤ k → k < index + n → at k ≡ at' k) →
    first_match at n index ≡ first_match at' n index
unfolding first_match
first_same at at' zero index same = refl
first_same at at' (suc n) index same =
    ap₂ (or_later index) (same index (omega arith) (omega arith))
    (first_same at at' n (index + 1) (λ k above below. same k (omega arith) (omega arith)))

module _ (at : ℕ → MatchResult) where
  none_found : (n index : ℕ) → ((k : ℕ) → index ≤ k → k < index + n → at k ≡ None) → first_match at n index ≡ None
  unfolding first_match
  none_found zero index none = refl
  none_found (suc n) index none =
      ap (λ r. or_later index r (first_match at n (index + 1))) (none index (omega arith) (omega arith))
      ∙ none_found n (index + 1) (λ k above below. none k (omega arith) (omega arith))

  one_found : (n index k : ℕ) (x : MatchState) → index ≤ k → k < index + n → at k ≡ Some x →
      ((j : ℕ) → index ≤ j → j < k → at j ≡ None) → first_match at n index ≡ Some (k, x)
  unfolding first_match
  one_found zero index k x above below here none = absurd (omega arith)
  one_found (suc n) index k x above below here none =
      ⊎_elim
      (λ (later : index < k).
      ap (λ r. or_later index r (first_match at n (index + 1))) (none index (omega arith) later)
      ∙ one_found n (index + 1) k x (omega arith) (omega arith) here (λ j over under. none j (omega arith) under))
      (λ (now : k ≤ index).
      let same : index ≡ k = omega arith in
      ap (λ r. or_later index r (first_match at n (index + 1))) (ap at same ∙ here) ∙ ap (λ i. Some (i, x)) same)
      (cases_lt index k)

-- ---- indices and byte offsets

text_from : (cs : List ℕ) → scalars cs ≡ true → IsText cs
text_from [] e = All-nil IsScalar
text_from (c ∷ cs) e =
    let parts = and_parts (scalar c) (scalars cs) e in
    All-cons IsScalar c cs parts.0 (text_from cs parts.1)

scalars_from : (cs : List ℕ) → IsText cs → scalars cs ≡ true
scalars_from [] text = refl
scalars_from (c ∷ cs) text =
    and_from (scalar c) (scalars cs) (All-head IsScalar c cs text) (scalars_from cs (All-tail IsScalar c cs text))

pub decoded : (bytes : List ℕ) → IsUtf8 bytes → IsText (chars bytes)
decoded bytes utf8 = text_from (chars bytes) (scalars-chars bytes utf8)

-- each character of a text is a code point
pub in_range : (text : List ℕ) → IsText text → All IsCodePoint text
in_range text is_text = All-weaker IsScalar IsCodePoint scalar_in_range text is_text

encoded : (text : List ℕ) → IsText text → IsUtf8 (encode_utf8_all text)
encoded text is_text = (text, (scalars_from text is_text, refl))

-- the index at a byte offset
record IsIndexAt (text : List ℕ) (i k : ℕ) : Type 0 where
  within : k ≤ length text
  at : byte_position text k ≡ i

module _ (text : List ℕ) (is_text : IsText text) where
  on_boundary : (k : ℕ) → IsCharBoundary (encode_utf8_all text) (byte_position text k)
  unfolding byte_position
  on_boundary k =
      IsCharBoundary-at_seam (encode_utf8_all text) (encode_utf8_all (take k text)) (encode_utf8_all (drop k text))
      (ap encode_utf8_all (sym (take-append-drop k text)) ∙ encodes-append (take k text) (drop k text))
      (encoded (drop k text) (All-drop IsScalar k text is_text))

  index_at : (i : ℕ) → IsCharBoundary (encode_utf8_all text) i → (k : ℕ) × IsIndexAt text i k
  unfolding byte_position
  index_at i on =
      let bytes = encode_utf8_all text in
      let utf8 = encoded text is_text in
      let front = IsUtf8-take bytes i utf8 on in
      let back = IsUtf8-drop bytes i utf8 on in
      let whole : encode_utf8_all (front.0 ++ back.0) ≡ bytes =
      encodes-append front.0 back.0 ∙ ap₂ (λ xs ys. xs ++ ys) front.1.1 back.1.1 ∙ take-append-drop i bytes in
      let same : text ≡ front.0 ++ back.0 = sym (encodes_same (front.0 ++ back.0) text whole) in
      let start : take (length front.0) text ≡ front.0 = ap (take (length front.0)) same ∙ take_at front.0 back.0 (length front.0) refl in (
        length front.0,
        record {
          within = omega (arith, ap length same, length-append front.0 back.0);
          at = ap (λ xs. length (encode_utf8_all xs)) start ∙ ap length front.1.1 ∙ length-take-le i bytes on.0;
        },
      )

  -- Indices are ordered as their byte offsets are.
  index_order : (j k : ℕ) → j ≤ length text → byte_position text j ≤ byte_position text k → j ≤ k
  index_order j k within le =
      ⊎_elim
      (λ (past : k < j). omega (arith, byte_position-lt text k j past within, le))
      (λ (le' : j ≤ k). le')
      (cases_lt k j)

-- unset captures stay unset as byte offsets
unset_in_bytes : (text : List ℕ) (n : ℕ) → map (byte_capture text) (replicate n None) ≡ replicate n None
unset_in_bytes text zero = refl
unset_in_bytes text (suc n) = ap (λ xs. None ∷ xs) (unset_in_bytes text n)

-- ---- the outcomes of a tree that means the pattern

-- the tree has the outcomes and as many groups as the pattern
pub record HasMeaning (setting : Setting) (t : Tree) (p : Pattern) : Type 0 where
  pub outcomes : (text : List ℕ) (s : Steps.MatchState) → IsText text → IsStateOf text s →
      matches setting (encode_utf8_all text) forwards t (byte_state text s) ≡ map (byte_state text) (meaning setting text forwards p s)
  pub groups : length (captures t) ≡ length (names p)

-- the first outcome of the pattern from an index, with all groups unset, as a state of ECMA-262
abbrev pub outcome_at : Setting → Pattern → (text : List ℕ) → (index : ℕ) → MatchResult
outcome_at setting p text index =
    option_map (state_on text) (slice_get (meaning setting text forwards p (record { position = index; captures = replicate (length (names p)) None })) 0)

-- From each index of the text, the matcher of ECMA-262 for the second syntax tree returns the first outcome of the first one.
abbrev pub Returns : Setting → (p q : Pattern) → (text : List ℕ) → Type 0
Returns setting p q text = (index : ℕ) → index ≤ length text → match_at setting q text index ≡ outcome_at setting p text index

-- RegExpBuiltinExec finds the first of these outcomes.
pub exec_by_outcomes : (setting : Setting) (p q : Pattern) (text : List ℕ) → Returns setting p q text → (index : ℕ) → index ≤ length text →
    builtin_exec setting q text index ≡ first_match (outcome_at setting p text) (length text + 1 - index) index
exec_by_outcomes setting p q text returns index within =
    first_same (match_at setting q text) (outcome_at setting p text) (length text + 1 - index) index
    (λ k above below. returns k (omega (arith, below, within)))

-- the outcomes of a tree at a byte offset, with all groups unset
abbrev pub outcomes_from : Setting → (bytes : List ℕ) → Tree → (offset : ℕ) → List Steps.MatchState
outcomes_from setting bytes t offset =
    matches setting bytes forwards t (record { position = offset; captures = replicate (length (captures t)) None })

module _ (setting : Setting) (p q : Pattern) (t : Tree) (means : HasMeaning setting t p) (text : List ℕ) (is_text : IsText text)
    (returns : Returns setting p q text) where
  abbrev pub outcomes : (offset : ℕ) → List Steps.MatchState
  outcomes = outcomes_from setting (encode_utf8_all text) t

  abbrev start : (n k : ℕ) → Steps.MatchState
  start n k = record { position = k; captures = replicate n None }

  both_ways : (r : Option Steps.MatchState) → option_map in_bytes (option_map (state_on text) r) ≡ option_map (byte_state text) r
  both_ways None = refl
  both_ways (Some s) = refl

  first_is : (k : ℕ) → k ≤ length text → slice_get (outcomes (byte_position text k)) 0 ≡ option_map in_bytes (match_at setting q text k)
  first_is k within =
      let n = length (captures t) in
      let state : IsStateOf text (start n k) = record {
        position = within;
        captures = All-replicate (IsCaptureOf text) n None tt;
      } in
      let from : outcomes (byte_position text k) ≡ map (byte_state text) (meaning setting text forwards p (start n k)) =
      ap (λ spans. matches setting (encode_utf8_all text) forwards t (record { position = byte_position text k; captures = spans }))
      (sym (unset_in_bytes text n))
      ∙ means.outcomes text (start n k) is_text state in
      let to : match_at setting q text k ≡ option_map (state_on text) (slice_get (meaning setting text forwards p (start n k)) 0) =
      returns k within
      ∙ ap (λ m. option_map (state_on text) (slice_get (meaning setting text forwards p (start m k)) 0)) (sym means.groups) in
      ap (λ xs. slice_get xs 0) from
      ∙ slice_get-map (byte_state text) (meaning setting text forwards p (start n k)) 0
      ∙ sym (both_ways (slice_get (meaning setting text forwards p (start n k)) 0))
      ∙ ap (option_map in_bytes) (sym to)

  no_match : (k : ℕ) → k ≤ length text → outcomes (byte_position text k) ≡ [] → match_at setting q text k ≡ None
  no_match k within none = is_none (match_at setting q text k) (sym (first_is k within) ∙ ap (λ xs. slice_get xs 0) none)
    where
      is_none : (r : MatchResult) → option_map in_bytes r ≡ None → r ≡ None
      is_none None e = refl
      is_none (Some x) e = absurd (cc)

  input_of_match : (k : ℕ) → k ≤ length text → (x : MatchState) → match_at setting q text k ≡ Some x → x.input ≡ text
  input_of_match k within x e =
      of_state (slice_get (meaning setting text forwards p (start (length (names p)) k)) 0)
      (sym (returns k within) ∙ e)
    where
      of_state : (r : Option Steps.MatchState) → option_map (state_on text) r ≡ Some x → x.input ≡ text
      of_state None e = absurd (cc)
      of_state (Some s) e = let same : state_on text s ≡ x = cc in ap (λ y. y.input) (sym same)

  -- the leftmost match in bytes,
  pub leftmost : (index offset : ℕ) → index ≤ length text → byte_position text index ≤ offset → IsCharBoundary (encode_utf8_all text) offset →
      (s : Steps.MatchState) (rest : List Steps.MatchState) → outcomes offset ≡ s ∷ rest →
      ((o : ℕ) → byte_position text index ≤ o → o < offset → IsCharBoundary (encode_utf8_all text) o → outcomes o ≡ []) →
      option_map found_in_bytes (builtin_exec setting q text index) ≡ Some (offset, s)
  leftmost index offset within from on s rest first least =
      let k = index_at text is_text offset on in
      let here : option_map in_bytes (match_at setting q text k.0) ≡ Some s =
      sym (first_is k.0 k.1.within) ∙ ap (λ xs. slice_get xs 0) (ap outcomes k.1.at ∙ first) in
      let order : index ≤ k.0 = index_order text is_text index k.0 within (omega (arith, from, k.1.at)) in
      let none : (j : ℕ) → index ≤ j → j < k.0 → match_at setting q text j ≡ None =
      λ j above below.
      no_match j (omega (arith, below, k.1.within))
      (least (byte_position text j) (byte_position-le text index j above (omega (arith, below, k.1.within)))
      (omega (arith, byte_position-lt text j k.0 below k.1.within, k.1.at)) (on_boundary text is_text j)) in
      at_index k.0 k.1.within order none (match_at setting q text k.0) refl here k.1.at
    where
      at_index : (k : ℕ) → k ≤ length text → index ≤ k → ((j : ℕ) → index ≤ j → j < k → match_at setting q text j ≡ None) →
          (r : MatchResult) → match_at setting q text k ≡ r → option_map in_bytes r ≡ Some s → byte_position text k ≡ offset →
          option_map found_in_bytes (builtin_exec setting q text index) ≡ Some (offset, s)
      at_index k in_text order none None e here at = absurd (cc)
      at_index k in_text order none (Some x) e here at =
          let found = one_found (match_at setting q text) (length text + 1 - index) index k x order (omega (arith, in_text, within)) e none in
          let input = input_of_match k in_text x e in
          let state : in_bytes x ≡ s = cc in
          ap (option_map found_in_bytes) found
          ∙ ap₂ (λ o y. Some (o, y)) (ap (λ (input : List ℕ). byte_position input k) input ∙ at) state

  -- or none
  pub nowhere : (index : ℕ) → index ≤ length text →
      ((o : ℕ) → byte_position text index ≤ o → IsCharBoundary (encode_utf8_all text) o → outcomes o ≡ []) →
      builtin_exec setting q text index ≡ None
  nowhere index within none =
      none_found (match_at setting q text) (length text + 1 - index) index
      (λ k above below.
      let in_text : k ≤ length text = omega (arith, below, within) in
      no_match k in_text (none (byte_position text k) (byte_position-le text index k above in_text) (on_boundary text is_text k)))

-- ---- without a differing construct

pub returned : (setting : Setting) (p : Pattern) → IsComparable setting p → (text : List ℕ) → IsText text → Returns setting p p text
returned setting p comparable text is_text = pattern_outcome setting p comparable text (in_range text is_text) (length text + 1) (omega arith)
