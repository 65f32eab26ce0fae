-- Matching a well-formed tree stays inside a text in UTF-8, on its character boundaries. In a tree that is not well
-- formed, a byte sequence could end inside a character.
use Rattle.std.proofs.Common.{◌≡◌, ℕ, ◌<◌, ◌≤◌, ◌==◌, not, true, List, [], ◌∷◌, ◌++◌, length, take, drop, map, Option, Some, None, All, encode_utf8_all, refl, sym, ap, ap₂, ◌∙◌, subst, ⊎_elim, arith}
use Rattle.std.proofs.lemmas.List.{take-append-drop, length-take-le, length-append, take_at}
use Rattle.std.proofs.lemmas.List.Elements.{All-nil, All-cons, All-head, All-tail, All-drop, All-weaker, All-map}
use Rattle.std.proofs.lemmas.Bool.{cases_lt}
use Rattle.std.proofs.lemmas.Str.{IsUtf8-take, IsUtf8-drop, IsCharBoundary-at_seam, encodes-append, encodes_same}
use Rattle.std.specs.Char.{IsScalar, encode_utf8}
use Rattle.std.specs.Str.{IsUtf8, IsCharBoundary}
use Rattle.regress_base.specs.Brackets.{is_accepted}
use Rattle.regress_base.specs.Listing.{lists}
use Rattle.regress_base.specs.Table.{denotes}
use Rattle.regress_tree.specs.Assertions.{is_line_terminator, is_word_character}
use Rattle.regress_tree.specs.Inside.{IsSpanInside, IsCaptureInside, IsStateInside}
use Rattle.regress_tree.specs.Matching.{direction_in, leaf_steps, wrapper_steps, steps, steps_of_parts, matches}
use Rattle.regress_tree.specs.Reading.{Direction, forwards, backwards, IsText, byte_position}
use Rattle.regress_tree.specs.Steps.{CaptureSpan, MatchState, Matcher, IsCaptureOf, IsStateOf, byte_capture, byte_state, stay, these_bytes, Setting}
use Rattle.regress_tree.specs.Tree.{Leaf, empty, goal, char, byte_sequence, byte_set, char_set, match_any, match_any_except_line_terminator, anchor, word_boundary, bracket, back_ref, string_set, Wrapper, capture_group, loop, loop_one, lookaround, Tree, Trees, leaf, cat, alt, wrapped, no_trees, more_trees}
use Rattle.regress_tree.specs.WellFormed.{Position, inside, root, last_of, position_in, LeafIsAllowed, IsAllowed, PartsAllowed, IsWellFormed}
use Rattle.regress_tree.proofs.TextLemmas.{utf8-from, are-utf8}
use Rattle.regress_tree.proofs.lemmas.Assertions.{Simulates-anchor, Simulates-boundary}
use Rattle.regress_tree.proofs.lemmas.ByteSequences.{these_bytes-none, these_bytes-append, these_bytes-one, these_bytes_before-append, these_bytes_before-one}
use Rattle.regress_tree.proofs.lemmas.ByteStates.{All-distinct}
use Rattle.regress_tree.proofs.lemmas.Characters.{byte_position-le, byte_position-lt}
use Rattle.regress_tree.proofs.lemmas.Readings.{IsOnward}
use Rattle.regress_tree.proofs.lemmas.References.{Simulates-back_reference}
use Rattle.regress_tree.proofs.lemmas.Repetition.{Simulates-repeat}
use Rattle.regress_tree.proofs.lemmas.Simulation.{IsReached, Simulates, Simulates-same_right, Simulates-stay, Simulates-then, Simulates-or, Simulates-one_character, Simulates-capture, Simulates-look}
use Rattle.regress_tree.proofs.lemmas.Strings.{Simulates-any_string}

-- The step over the bytes of a text does what some step does over its characters.
abbrev pub IsSimulation : List ℕ → Direction → Matcher → Type 0
IsSimulation text d g = (f : Matcher) × Simulates text d f g

-- ---- each allowed tree simulates

module _ (text : List ℕ) (is_text : IsText text) where
  -- the UTF-8 of some characters
  written_simulates : (d : Direction) (cs : List ℕ) → IsText cs →
      IsSimulation text d (these_bytes d (encode_utf8_all text) (encode_utf8_all cs))
  written_simulates d [] is =
      (stay, Simulates-same_right text d _ _ _ (these_bytes-none d (encode_utf8_all text)) (Simulates-stay text d))
  written_simulates forwards (c ∷ cs) is =
      let bytes = encode_utf8_all text in
      let first = Simulates-same_right text forwards _ _ _ (these_bytes-one bytes c (All-head IsScalar c cs is))
      (Simulates-one_character text is_text forwards (λ x. x == c)) in
      let rest = written_simulates forwards cs (All-tail IsScalar c cs is) in (
        _,
        Simulates-same_right text forwards _ _ _ (these_bytes-append bytes (encode_utf8 c) (encode_utf8_all cs))
            (Simulates-then text forwards _ _ _ _ first rest.1),
      )
  written_simulates backwards (c ∷ cs) is =
      let bytes = encode_utf8_all text in
      let first = Simulates-same_right text backwards _ _ _ (these_bytes_before-one bytes c (All-head IsScalar c cs is))
      (Simulates-one_character text is_text backwards (λ x. x == c)) in
      let rest = written_simulates backwards cs (All-tail IsScalar c cs is) in (
        _,
        Simulates-same_right text backwards _ _ _ (these_bytes_before-append bytes (encode_utf8 c) (encode_utf8_all cs))
            (Simulates-then text backwards _ _ _ _ rest.1 first),
      )

  module _ (setting : Setting) where
    leaf_simulates : (n : ℕ) (l : Leaf) (p : Position) → LeafIsAllowed n l p → (d : Direction) →
        IsSimulation text d (leaf_steps setting (encode_utf8_all text) d l)
    leaf_simulates n empty p is d = (stay, Simulates-stay text d)
    leaf_simulates n goal p is d = (stay, Simulates-stay text d)
    leaf_simulates n (char c) p is d = (_, Simulates-one_character text is_text d (λ x. x == c))
    leaf_simulates n (byte_sequence bytes) p is d =
        subst (λ written. IsSimulation text d (these_bytes d (encode_utf8_all text) written)) (sym is.encoded)
        (written_simulates d is.characters is.are_scalar)
    leaf_simulates n (byte_set members) p is d = (_, Simulates-one_character text is_text d (lists members))
    leaf_simulates n (char_set members) p is d = (_, Simulates-one_character text is_text d (lists members))
    leaf_simulates n match_any p is d = (_, Simulates-one_character text is_text d (λ x. true))
    leaf_simulates n match_any_except_line_terminator p is d =
        (_, Simulates-one_character text is_text d (λ x. not (is_line_terminator x)))
    leaf_simulates n (anchor kind multiline) p is d = (_, Simulates-anchor text is_text d kind multiline)
    leaf_simulates n (word_boundary invert unicode_icase) p is d =
        (_, Simulates-boundary text is_text d (is_word_character setting.table unicode_icase) invert)
    leaf_simulates n (bracket invert intervals) p is d = (_, Simulates-one_character text is_text d (is_accepted invert intervals))
    leaf_simulates n (back_ref group icase) p is d =
        (_, Simulates-back_reference text is_text d (denotes setting.table icase setting.flags.unicode) _)
    leaf_simulates n (string_set strings icase) p is d =
        (_, Simulates-any_string text is_text d (denotes setting.table icase setting.flags.unicode) strings)

    wrapper_simulates : (w : Wrapper) (d : Direction) (g : Matcher) → IsSimulation text (direction_in w d) g →
        IsSimulation text d (wrapper_steps setting (encode_utf8_all text) w g)
    wrapper_simulates (capture_group id name) d g body = (_, Simulates-capture text d id body.0 g body.1)
    wrapper_simulates (loop quantifier start end) d g body = (_, Simulates-repeat text d quantifier start end body.0 g body.1)
    wrapper_simulates (loop_one quantifier) d g body = (_, Simulates-repeat text d quantifier 0 0 body.0 g body.1)
    wrapper_simulates (lookaround negate looks_back start end) d g body =
        (_, Simulates-look text d (direction_in (lookaround negate looks_back start end) d) negate body.0 g body.1)

    mutual
      -- an allowed tree,
      pub tree_simulates : (n : ℕ) (t : Tree) (p : Position) → IsAllowed n t p → (d : Direction) →
          IsSimulation text d (steps setting (encode_utf8_all text) d t)
      tree_simulates n (leaf l) p is d = leaf_simulates n l p is d
      tree_simulates n (cat parts) p is d = parts_simulate n parts (last_of p) is.1 d
      tree_simulates n (alt left right) p is d =
          let first = tree_simulates n left inside is.1 d in
          let second = tree_simulates n right inside is.2 d in
          (_, Simulates-or text d first.0 _ second.0 _ first.1 second.1)
      tree_simulates n (wrapped w body) p is d =
          wrapper_simulates w d _ (tree_simulates n body (position_in w) is.2 (direction_in w d))

      -- and the parts of one
      parts_simulate : (n : ℕ) (ts : Trees) (p : Position) → PartsAllowed n ts p → (d : Direction) →
          IsSimulation text d (steps_of_parts setting (encode_utf8_all text) d ts)
      parts_simulate n no_trees p is d = (stay, Simulates-stay text d)
      parts_simulate n (more_trees t no_trees) p is d =
          let only = tree_simulates n t p is d in
          (_, Simulates-then text d only.0 _ stay stay only.1 (Simulates-stay text d))
      parts_simulate n (more_trees t (more_trees u us)) p is d =
          let first = tree_simulates n t inside is.0 d in
          let rest = parts_simulate n (more_trees u us) p is.1 d in
          (_, Simulates-then text d first.0 _ rest.0 _ first.1 rest.1)

-- ---- character boundaries are the byte offsets of positions

module _ (text : List ℕ) (is_text : IsText text) where
  at_position : (k : ℕ) → IsCharBoundary (encode_utf8_all text) (byte_position text k)
  unfolding byte_position
  at_position k =
      let rest : IsUtf8 (encode_utf8_all (drop k text)) =
      utf8-from _ inside (record { characters = drop k text; are_scalar = All-drop IsScalar k text is_text; encoded = refl; one = tt }) in
      IsCharBoundary-at_seam (encode_utf8_all text) (encode_utf8_all (take k text)) (encode_utf8_all (drop k text))
      (ap encode_utf8_all (sym (take-append-drop k text)) ∙ encodes-append (take k text) (drop k text)) rest

  -- the position at a byte offset
  record IsPosition (i k : ℕ) : Type 0 where
    within : k ≤ length text
    at : byte_position text k ≡ i

  position_at : (i : ℕ) → IsUtf8 (encode_utf8_all text) → IsCharBoundary (encode_utf8_all text) i → (k : ℕ) × IsPosition i k
  unfolding byte_position
  position_at i utf8 on =
      let bytes = encode_utf8_all text in
      let front = IsUtf8-take bytes i utf8 on in
      let back = IsUtf8-drop bytes i utf8 on in
      let whole : encode_utf8_all (front.0 ++ back.0) ≡ bytes =
      encodes-append front.0 back.0 ∙ ap₂ (λ xs ys. xs ++ ys) front.1.1 back.1.1 ∙ take-append-drop i bytes in
      let same : text ≡ front.0 ++ back.0 = sym (encodes_same (front.0 ++ back.0) text whole) in
      let start : take (length front.0) text ≡ front.0 = ap (take (length front.0)) same ∙ take_at front.0 back.0 (length front.0) refl in (
        length front.0,
        record {
          within = omega (arith, ap length same, length-append front.0 back.0);
          at = ap (λ xs. length (encode_utf8_all xs)) start ∙ ap length front.1.1 ∙ length-take-le i bytes on.0;
        },
      )

  -- ---- spans and states

  span_inside : (c : Option CaptureSpan) → IsCaptureOf text c → IsCaptureInside (encode_utf8_all text) (byte_capture text c)
  span_inside None is = tt
  span_inside (Some span) is = record {
    ordered = byte_position-le text span.0 span.1 is.ordered is.within;
    start = at_position span.0;
    end = at_position span.1;
  }

  -- In bytes, a state of the text is inside its UTF-8,
  state_inside : (s : MatchState) → IsStateOf text s → IsStateInside (encode_utf8_all text) (byte_state text s)
  state_inside s is = record {
    position = at_position s.position;
    captures = All-map (IsCaptureInside (encode_utf8_all text)) (byte_capture text) s.captures
        (All-weaker (IsCaptureOf text) _ span_inside s.captures is.captures);
  }

  -- and each state inside it is one of the text.
  record IsSpan (span from : CaptureSpan) : Type 0 where
    of : IsCaptureOf text (Some from)
    start : byte_position text from.0 ≡ span.0
    end : byte_position text from.1 ≡ span.1

  module _ (utf8 : IsUtf8 (encode_utf8_all text)) where
    span_from : (span : CaptureSpan) → IsSpanInside (encode_utf8_all text) span → (from : CaptureSpan) × IsSpan span from
    span_from span is =
        let start = position_at span.0 utf8 is.start in
        let end = position_at span.1 utf8 is.end in
        let ordered : start.0 ≤ end.0 =
        ⊎_elim
        (λ (past : end.0 < start.0).
        omega (arith, byte_position-lt text end.0 start.0 past start.1.within, start.1.at, end.1.at, is.ordered))
        (λ (le : start.0 ≤ end.0). le)
        (cases_lt end.0 start.0) in (
          (start.0, end.0),
          record { of = record { ordered = ordered; within = end.1.within }; start = start.1.at; end = end.1.at },
        )

    capture_from : (c : Option CaptureSpan) → IsCaptureInside (encode_utf8_all text) c →
        (from : Option CaptureSpan) × (IsCaptureOf text from × (byte_capture text from ≡ c))
    capture_from None is = (None, (tt, refl))
    capture_from (Some span) is =
        let from = span_from span is in
        (Some from.0, (from.1.of, ap₂ (λ a b. Some (a, b)) from.1.start from.1.end))

    captures_from : (cs : List (Option CaptureSpan)) → All (IsCaptureInside (encode_utf8_all text)) cs →
        (from : List (Option CaptureSpan)) × (All (IsCaptureOf text) from × (map (byte_capture text) from ≡ cs))
    captures_from [] all = ([], (All-nil (IsCaptureOf text), refl))
    captures_from (c ∷ cs) all =
        let first = capture_from c (All-head (IsCaptureInside (encode_utf8_all text)) c cs all) in
        let rest = captures_from cs (All-tail (IsCaptureInside (encode_utf8_all text)) c cs all) in
        (first.0 ∷ rest.0, (All-cons (IsCaptureOf text) first.0 rest.0 first.1.0 rest.1.0, ap₂ (λ x xs. x ∷ xs) first.1.1 rest.1.1))

    state_from : (s : MatchState) → IsStateInside (encode_utf8_all text) s → (from : MatchState) × (IsStateOf text from × (byte_state text from ≡ s))
    state_from s is =
        let k = position_at s.position utf8 is.position in
        let cs = captures_from s.captures is.captures in (
          record { position = k.0; captures = cs.0 },
          (record { position = k.1.within; captures = cs.1.0 }, ap₂ (λ p c. record { position = p; captures = c }) k.1.at cs.1.1),
        )

-- ---- outcomes

-- A state inside a text in bytes that is not against the direction from another one.
pub record IsReachedInside (bytes : List ℕ) (d : Direction) (from to : MatchState) : Type 0 where
  pub state : IsStateInside bytes to
  pub onward : IsOnward d from.position to.position

module _ (text : List ℕ) (is_text : IsText text) where
  IsOnward-byte_position : (d : Direction) (j k : ℕ) → j ≤ length text → k ≤ length text → IsOnward d j k →
      IsOnward d (byte_position text j) (byte_position text k)
  IsOnward-byte_position forwards j k hj hk on = byte_position-le text j k on hk
  IsOnward-byte_position backwards j k hj hk on = byte_position-le text k j on hj

  reached_inside : (d : Direction) (s t : MatchState) → IsStateOf text s → IsReached text d s t →
      IsReachedInside (encode_utf8_all text) d (byte_state text s) (byte_state text t)
  reached_inside d s t is reached = record {
    state = state_inside text is_text t reached.state;
    onward = IsOnward-byte_position d s.position t.position is.position reached.state.position reached.onward;
  }

  -- Each outcome of a step that simulates is inside the text if the state is.
  outcomes_inside : (d : Direction) (g : Matcher) → IsSimulation text d g → (s : MatchState) → IsStateOf text s →
      All (IsReachedInside (encode_utf8_all text) d (byte_state text s)) (g (byte_state text s))
  outcomes_inside d g sim s is =
      subst (All (IsReachedInside (encode_utf8_all text) d (byte_state text s))) (sym (sim.1.same s is))
      (All-map (IsReachedInside (encode_utf8_all text) d (byte_state text s)) (byte_state text) (sim.0 s)
      (All-weaker (IsReached text d s) _ (λ t reached. reached_inside d s t is reached) (sim.0 s) (sim.1.reached s is)))

-- From a state inside a text in UTF-8, each outcome of an allowed tree is inside the text, and not against the
-- direction.
pub allowed_stays_inside : (setting : Setting) (bytes : List ℕ) → IsUtf8 bytes → (n : ℕ) (t : Tree) (p : Position) → IsAllowed n t p →
    (d : Direction) (s : MatchState) → IsStateInside bytes s → All (IsReachedInside bytes d s) (steps setting bytes d t s)
allowed_stays_inside setting bytes utf8 n t p allowed d s is =
    let text = are-utf8 bytes utf8 in
    let claim : List ℕ → Type 0 =
    λ bs. IsUtf8 bs → IsStateInside bs s → All (IsReachedInside bs d s) (steps setting bs d t s) in
    let over_text : claim (encode_utf8_all text.characters) =
    λ utf8' is'.
    let from = state_from text.characters text.are_scalar utf8' s is' in
    subst (λ x. All (IsReachedInside (encode_utf8_all text.characters) d x) (steps setting (encode_utf8_all text.characters) d t x)) from.1.1
    (outcomes_inside text.characters text.are_scalar d _ (tree_simulates text.characters text.are_scalar setting n t p allowed d) from.0 from.1.0) in
    subst claim (sym text.encoded) over_text utf8 is

-- From a state inside a text in UTF-8, each outcome of a well-formed tree is inside the text, and not against the
-- direction.
pub well_formed_stays_inside : (setting : Setting) (bytes : List ℕ) → IsUtf8 bytes → (t : Tree) → IsWellFormed t →
    (d : Direction) (s : MatchState) → IsStateInside bytes s → All (IsReachedInside bytes d s) (matches setting bytes d t s)
well_formed_stays_inside setting bytes utf8 t well_formed d s is =
    All-distinct bytes (IsReachedInside bytes d s) (steps setting bytes d t s)
    (allowed_stays_inside setting bytes utf8 _ t root well_formed.occurs d s is)
