-- Each operation of `Steps` does over the bytes of a text what it does over its characters.
use Rattle.std.proofs.Common.{◌≡◌, ℕ, ◌≤◌, Bool, true, false, cond, min, max, ◌<◌, List, [], ◌∷◌, ◌++◌, length, map, set, Option, Some, None, option_map, IfSome, All, flat_map, encode_utf8_all, refl, sym, ap, ap₂, ◌∙◌, ⊎_elim, arith}
use Rattle.std.proofs.lemmas.List.{map-append, map-set}
use Rattle.std.proofs.lemmas.List.Elements.{All-nil, All-cons, All-head, All-tail, All-append, All-set, All-map, All-weaker}
use Rattle.std.proofs.lemmas.Bool.{cases_lt}
use Rattle.regress_tree.specs.Reading.{Direction, forwards, backwards, Read, next_character, IsText, of_characters, of_bytes, byte_position}
use Rattle.regress_tree.specs.Steps.{MatchState, Matcher, IsStateOf, IsCaptureOf, byte_state, byte_capture, stay, fail, ◌then_◌, ◌or_◌, moved, one_character, hold_at, captured, capture}
use Rattle.regress_tree.specs.Lookaround.{looked, lookaround_matcher}
use Rattle.regress_tree.proofs.lemmas.Characters.{byte_position-le}
use Rattle.regress_tree.proofs.lemmas.Readings.{byte_read, IsOnward, next_character-byte_position, next_character-within}

-- a state of the text that is not against the direction from another one
pub record IsReached (text : List ℕ) (d : Direction) (from to : MatchState) : Type 0 where
  pub state : IsStateOf text to
  pub onward : IsOnward d from.position to.position

-- The matcher g over the bytes of a text does what f does over its characters, and f stays inside the text and advances
-- in the direction.
pub record Simulates (text : List ℕ) (d : Direction) (f g : Matcher) : Type 0 where
  pub same : (s : MatchState) → IsStateOf text s → g (byte_state text s) ≡ map (byte_state text) (f s)
  pub reached : (s : MatchState) → IsStateOf text s → All (IsReached text d s) (f s)

IsOnward-refl : (d : Direction) (k : ℕ) → IsOnward d k k
IsOnward-refl forwards k = omega arith
IsOnward-refl backwards k = omega arith

IsOnward-trans : (d : Direction) (i j k : ℕ) → IsOnward d i j → IsOnward d j k → IsOnward d i k
IsOnward-trans forwards i j k first second = omega arith
IsOnward-trans backwards i j k first second = omega arith

module _ (text : List ℕ) (d : Direction) where
  pub Simulates-within : (f g : Matcher) → Simulates text d f g → (s : MatchState) → IsStateOf text s → All (IsStateOf text) (f s)
  Simulates-within f g sim s in' = All-weaker (IsReached text d s) (IsStateOf text) (λ t r. r.state) (f s) (sim.reached s in')

  -- A matcher that is equal at each state simulates too.
  pub Simulates-same_right : (f g h : Matcher) → ((s : MatchState) → h s ≡ g s) → Simulates text d f g → Simulates text d f h
  Simulates-same_right f g h e sim = record {
    same = λ s in'. e (byte_state text s) ∙ sim.same s in';
    reached = sim.reached;
  }

  -- The state itself is reached.
  reached_itself : (s : MatchState) → IsStateOf text s → All (IsReached text d s) (s ∷ [])
  reached_itself s in' =
      All-cons (IsReached text d s) s [] (record { state = in'; onward = IsOnward-refl d s.position }) (All-nil (IsReached text d s))

  pub Simulates-stay : Simulates text d stay stay
  Simulates-stay = record { same = λ s in'. refl; reached = reached_itself }

  pub Simulates-fail : Simulates text d fail fail
  Simulates-fail = record { same = λ s in'. refl; reached = λ s in'. All-nil (IsReached text d s) }

  flat_map-byte_state : (f g : Matcher) → Simulates text d f g → (states : List MatchState) → All (IsStateOf text) states →
      flat_map g (map (byte_state text) states) ≡ map (byte_state text) (flat_map f states)
  flat_map-byte_state f g sim [] all = refl
  flat_map-byte_state f g sim (s ∷ states) all =
      ap₂ (λ xs ys. xs ++ ys) (sim.same s (All-head (IsStateOf text) s states all))
      (flat_map-byte_state f g sim states (All-tail (IsStateOf text) s states all))
      ∙ sym (map-append (byte_state text) (f s) (flat_map f states))

  -- The outcomes of a matcher from reached states are reached.
  flat_map-reached : (f g : Matcher) → Simulates text d f g → (from : MatchState) (states : List MatchState) → All (IsReached text d from) states →
      All (IsReached text d from) (flat_map f states)
  flat_map-reached f g sim from [] all = All-nil (IsReached text d from)
  flat_map-reached f g sim from (s ∷ states) all =
      let here = All-head (IsReached text d from) s states all in
      All-append (IsReached text d from) (f s) (flat_map f states)
      (All-weaker (IsReached text d s) (IsReached text d from)
      (λ t r. record { state = r.state; onward = IsOnward-trans d from.position s.position t.position here.onward r.onward }) (f s)
      (sim.reached s here.state))
      (flat_map-reached f g sim from states (All-tail (IsReached text d from) s states all))

  pub Simulates-then : (f g h k : Matcher) → Simulates text d f g → Simulates text d h k → Simulates text d (f then_ h) (g then_ k)
  Simulates-then f g h k first second = record {
    same = λ s in'.
        ap (flat_map k) (first.same s in') ∙ flat_map-byte_state h k second (f s) (Simulates-within f g first s in');
    reached = λ s in'. flat_map-reached h k second s (f s) (first.reached s in');
  }

  pub Simulates-or : (f g h k : Matcher) → Simulates text d f g → Simulates text d h k → Simulates text d (f or_ h) (g or_ k)
  Simulates-or f g h k left right = record {
    same = λ s in'. ap₂ (λ xs ys. xs ++ ys) (left.same s in') (right.same s in') ∙ sym (map-append (byte_state text) (f s) (h s));
    reached = λ s in'. All-append (IsReached text d s) (f s) (h s) (left.reached s in') (right.reached s in');
  }

  -- ---- tests on a position

  cond-itself : (s : MatchState) → IsStateOf text s → (b : Bool) → All (IsReached text d s) (cond b (s ∷ []) [])
  cond-itself s in' true = reached_itself s in'
  cond-itself s in' false = All-nil (IsReached text d s)

  cond-same : (s : MatchState) (b : Bool) → cond b (byte_state text s ∷ []) [] ≡ map (byte_state text) (cond b (s ∷ []) [])
  cond-same s true = refl
  cond-same s false = refl

  -- a test with the same result at each position of the text
  pub Simulates-hold_at : (p q : ℕ → Bool) → ((k : ℕ) → k ≤ length text → q (byte_position text k) ≡ p k) →
      Simulates text d (hold_at p) (hold_at q)
  unfolding hold_at
  Simulates-hold_at p q agree = record {
    same = λ s in'. ap (λ b. cond b (byte_state text s ∷ []) []) (agree s.position in'.position) ∙ cond-same s (p s.position);
    reached = λ s in'. cond-itself s in' (p s.position);
  }

-- ---- characters

module _ (text : List ℕ) (d : Direction) (test : ℕ → Bool) (s : MatchState) (in' : IsStateOf text s) where
  -- whether or not the character passes the test
  cond-byte_state : (b : Bool) (k : ℕ) →
      cond b (record (byte_state text s) { position = byte_position text k } ∷ []) []
      ≡ map (byte_state text) (cond b (record s { position = k } ∷ []) [])
  cond-byte_state true k = refl
  cond-byte_state false k = refl

  moved-byte_state : (read : Option Read) →
      moved test (byte_state text s) (option_map (byte_read text) read) ≡ map (byte_state text) (moved test s read)
  moved-byte_state None = refl
  moved-byte_state (Some read) = cond-byte_state (test read.character) read.position

  cond-reached : (b : Bool) (k : ℕ) → k ≤ length text → IsOnward d s.position k →
      All (IsReached text d s) (cond b (record s { position = k } ∷ []) [])
  cond-reached true k h onward =
      All-cons (IsReached text d s) _ [] (record { state = record { position = h; captures = in'.captures }; onward = onward })
      (All-nil (IsReached text d s))
  cond-reached false k h onward = All-nil (IsReached text d s)

  moved-reached : (read : Option Read) → IfSome read (λ r. (r.position ≤ length text) × IsOnward d s.position r.position) →
      All (IsReached text d s) (moved test s read)
  moved-reached None h = All-nil (IsReached text d s)
  moved-reached (Some read) h = cond-reached (test read.character) read.position h.0 h.1

pub Simulates-one_character : (text : List ℕ) → IsText text → (d : Direction) (test : ℕ → Bool) →
    Simulates text d (one_character d (of_characters text) test) (one_character d (of_bytes (encode_utf8_all text)) test)
unfolding one_character
Simulates-one_character text is_text d test = record {
  same = λ s in'.
      ap (moved test (byte_state text s)) (next_character-byte_position text is_text d s.position in'.position)
      ∙ moved-byte_state text d test s in' (next_character d (of_characters text) s.position);
  reached = λ s in'.
      moved-reached text d test s in' (next_character d (of_characters text) s.position) (next_character-within text d s.position in'.position);
}

-- ---- captures

byte_position-min : (text : List ℕ) (j k : ℕ) → j ≤ length text → k ≤ length text →
    min (byte_position text j) (byte_position text k) ≡ byte_position text (min j k)
byte_position-min text j k hj hk =
    ⊎_elim
    (λ (below : j < k).
    let e : min j k ≡ j = omega arith in
    omega (arith, ap (byte_position text) e, byte_position-le text j k (omega arith) hk))
    (λ (above : k ≤ j).
    let e : min j k ≡ k = omega arith in
    omega (arith, ap (byte_position text) e, byte_position-le text k j above hj))
    (cases_lt j k)

byte_position-max : (text : List ℕ) (j k : ℕ) → j ≤ length text → k ≤ length text →
    max (byte_position text j) (byte_position text k) ≡ byte_position text (max j k)
byte_position-max text j k hj hk =
    ⊎_elim
    (λ (below : j < k).
    let e : max j k ≡ k = omega arith in
    omega (arith, ap (byte_position text) e, byte_position-le text j k (omega arith) hk))
    (λ (above : k ≤ j).
    let e : max j k ≡ j = omega arith in
    omega (arith, ap (byte_position text) e, byte_position-le text k j above hj))
    (cases_lt j k)

module _ (text : List ℕ) (id from : ℕ) (h : from ≤ length text) where
  captured-byte_state : (s : MatchState) → IsStateOf text s →
      captured id (byte_position text from) (byte_state text s) ≡ byte_state text (captured id from s)
  captured-byte_state s in' =
      let e : set (map (byte_capture text) s.captures) id
      (Some (min (byte_position text from) (byte_position text s.position), max (byte_position text from) (byte_position text s.position)))
      ≡ map (byte_capture text) (set s.captures id (Some (min from s.position, max from s.position))) =
      ap₂ (λ a b. set (map (byte_capture text) s.captures) id (Some (a, b)))
      (byte_position-min text from s.position h in'.position) (byte_position-max text from s.position h in'.position)
      ∙ sym (map-set (byte_capture text) s.captures id (Some (min from s.position, max from s.position))) in
      ap (λ cs. record { position = byte_position text s.position; captures = cs }) e

  captured-within : (s : MatchState) → IsStateOf text s → IsStateOf text (captured id from s)
  captured-within s in' = record {
    position = in'.position;
    captures = All-set (IsCaptureOf text) s.captures id (Some (min from s.position, max from s.position))
        (record { ordered = omega arith; within = omega (arith, in'.position) }) in'.captures;
  }

  map-captured : (states : List MatchState) → All (IsStateOf text) states →
      map (captured id (byte_position text from)) (map (byte_state text) states) ≡ map (byte_state text) (map (captured id from) states)
  map-captured [] all = refl
  map-captured (s ∷ states) all =
      ap₂ (λ x xs. x ∷ xs) (captured-byte_state s (All-head (IsStateOf text) s states all))
      (map-captured states (All-tail (IsStateOf text) s states all))

pub Simulates-capture : (text : List ℕ) (d : Direction) (id : ℕ) (f g : Matcher) → Simulates text d f g →
    Simulates text d (capture id f) (capture id g)
unfolding capture
Simulates-capture text d id f g sim = record {
  same = λ s in'.
      ap (map (captured id (byte_position text s.position))) (sim.same s in')
      ∙ map-captured text id s.position in'.position (f s) (Simulates-within text d f g sim s in');
  reached = λ s in'.
      All-map (IsReached text d s) (captured id s.position) (f s)
      (All-weaker (IsReached text d s) (λ t. IsReached text d s (captured id s.position t))
      (λ t r. record { state = captured-within text id s.position in'.position t r.state; onward = r.onward }) (f s) (sim.reached s in'));
}

-- ---- lookarounds

module _ (text : List ℕ) (d e : Direction) (s : MatchState) (in' : IsStateOf text s) where
  looked-byte_state : (negate : Bool) (states : List MatchState) →
      looked negate (byte_state text s) (map (byte_state text) states) ≡ map (byte_state text) (looked negate s states)
  looked-byte_state false [] = refl
  looked-byte_state false (t ∷ states) = refl
  looked-byte_state true [] = refl
  looked-byte_state true (t ∷ states) = refl

  -- The position stays the same, whatever the direction of the outcomes.
  looked-reached : (negate : Bool) (states : List MatchState) → All (IsReached text e s) states → All (IsReached text d s) (looked negate s states)
  looked-reached false [] all = All-nil (IsReached text d s)
  looked-reached false (t ∷ states) all =
      let first = All-head (IsReached text e s) t states all in
      All-cons (IsReached text d s) _ []
      (record { state = record { position = in'.position; captures = first.state.captures }; onward = IsOnward-refl d s.position })
      (All-nil (IsReached text d s))
  looked-reached true [] all = reached_itself text d s in'
  looked-reached true (t ∷ states) all = All-nil (IsReached text d s)

-- The body of a lookaround has a direction of its own.
pub Simulates-look : (text : List ℕ) (d e : Direction) (negate : Bool) (f g : Matcher) → Simulates text e f g →
    Simulates text d (lookaround_matcher negate f) (lookaround_matcher negate g)
unfolding lookaround_matcher
Simulates-look text d e negate f g sim = record {
  same = λ s in'. ap (looked negate (byte_state text s)) (sim.same s in') ∙ looked-byte_state text d e s in' negate (f s);
  reached = λ s in'. looked-reached text d e s in' negate (f s) (sim.reached s in');
}
