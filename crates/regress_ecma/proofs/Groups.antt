-- Groups, lookarounds, and tests on a position: what the dialect and ECMA-262 return.
use Rattle.std.proofs.Common.{◌≡◌, ℕ, ◌≤◌, min, max, Bool, true, false, List, [], ◌∷◌, length, map, Option, Some, All, if◌then◌else◌, refl, sym, ap, ap₂, ◌∙◌, arith}
use Rattle.std.specs.Option.{option_or}
use Rattle.std.specs.Prelude.{slice_set}
use Rattle.std.proofs.lemmas.List.Elements.{All-nil, All-cons, All-head, All-tail, All-map, All-weaker, All-set}
use Rattle.regress_tree.specs.Reading.{Direction, forwards, backwards}
use Rattle.regress_tree.specs.Steps as Steps
use Rattle.regress_tree.specs.Steps.{CaptureSpan, IsStateOf, IsCaptureOf, captured, hold_at}
use Rattle.regress_tree.specs.Lookaround.{looked, lookaround_matcher}
use Rattle.regress_tree.proofs.lemmas.Readings.{IsOnward}
use Rattle.regress_tree.proofs.lemmas.Simulation.{IsReached}
use Rattle.regress_ecma.specs.Notation.{MatchState, failure, Continuation, Matcher}
use Rattle.regress_ecma.specs.Assertions.{accept, compile_lookaround}
use Rattle.regress_ecma.specs.Compile.{range_between, compile_capture}
use Rattle.regress_ecma.specs.Compared.{state_on}
use Rattle.regress_ecma.proofs.Bridge.{first_result, AgreesOn, Agrees, or_failure, reached_itself, IsOnward-refl}

-- ---- capture groups

first_result-map : (text : List ℕ) (P : Steps.MatchState → Type 0) (e c : Continuation) (g : Steps.MatchState → Steps.MatchState) →
    ((t : Steps.MatchState) → P t → e (state_on text t) ≡ c (state_on text (g t))) → (states : List Steps.MatchState) → All P states →
    first_result text e states ≡ first_result text c (map g states)
first_result-map text P e c g same [] all = refl
first_result-map text P e c g same (t ∷ states) all =
    ap₂ option_or (same t (All-head P t states all)) (first_result-map text P e c g same states (All-tail P t states all))

pub range_same : (d : Direction) (from to : ℕ) → IsOnward d from to →
    ◌≡◌ {A = Option CaptureSpan} (Some (range_between d from to)) (Some (min from to, max from to))
range_same forwards from to onward =
    let low : from ≡ min from to = omega (arith, onward) in
    let high : to ≡ max from to = omega (arith, onward) in
    ap₂ (λ (a b : ℕ). Some (a, b)) low high
range_same backwards from to onward =
    let low : to ≡ min from to = omega (arith, onward) in
    let high : from ≡ max from to = omega (arith, onward) in
    ap₂ (λ (a b : ℕ). Some (a, b)) low high

captured-within : (text : List ℕ) (id from : ℕ) → from ≤ length text → (s : Steps.MatchState) → IsStateOf text s → IsStateOf text (captured id from s)
captured-within text id from h s in' = record {
  position = in'.position;
  captures = All-set (IsCaptureOf text) s.captures id (Some (min from s.position, max from s.position))
      (record { ordered = omega arith; within = omega (arith, in'.position) }) in'.captures;
}

pub AgreesOn-capture : (text : List ℕ) (d : Direction) (P : Steps.MatchState → Type 0) (Q Q' : Steps.MatchState → Steps.MatchState → Type 0) (n : ℕ) →
    ((s t : Steps.MatchState) → Q s t → IsOnward d s.position t.position) →
    ((s t : Steps.MatchState) → P s → Q s t → Q' s (captured n s.position t)) →
    (f : Steps.Matcher) (m : Matcher) → AgreesOn text P Q f m → AgreesOn text P Q' (Steps.capture n f) (compile_capture n d m)
unfolding Steps.capture
AgreesOn-capture text d P Q Q' n onward leave f m agrees = record {
  same = λ s h c.
      let set_range : Continuation = λ y.
      c (record y { captures = slice_set y.captures n (Some (range_between d s.position y.end_index)) }) in
      agrees.same s h set_range
      ∙ first_result-map text (Q s) set_range c (captured n s.position)
      (λ t k.
      ap (λ (r : Option CaptureSpan). c (record (state_on text t) { captures = slice_set t.captures n r }))
      (range_same d s.position t.position (onward s t k)))
      (f s) (agrees.reached s h);
  reached = λ s h.
      All-map (Q' s) (captured n s.position) (f s)
      (All-weaker (Q s) (λ t. Q' s (captured n s.position t)) (λ t. leave s t h) (f s) (agrees.reached s h));
}

pub captured-reached : (text : List ℕ) (d : Direction) (n : ℕ) (s t : Steps.MatchState) → IsStateOf text s → IsReached text d s t →
    IsReached text d s (captured n s.position t)
captured-reached text d n s t in' reached = record {
  state = captured-within text n s.position in'.position t reached.state;
  onward = reached.onward;
}

pub Agrees-capture : (text : List ℕ) (d : Direction) (f : Steps.Matcher) (m : Matcher) → Agrees text d f m → (n : ℕ) →
    Agrees text d (Steps.capture n f) (compile_capture n d m)
Agrees-capture text d f m agrees n =
    AgreesOn-capture text d (IsStateOf text) (IsReached text d) (IsReached text d) n (λ s t reached. reached.onward) (captured-reached text d n) f m agrees

-- ---- lookarounds

module _ (text : List ℕ) where
  looked_same : (negate : Bool) (s : Steps.MatchState) (c : Continuation) (m : Matcher) (states : List Steps.MatchState) →
      m (state_on text s) accept ≡ first_result text accept states →
      compile_lookaround negate m (state_on text s) c ≡ first_result text c (looked negate s states)
  looked_same false s c m [] e = rw (e, compile_lookaround) refl
  looked_same false s c m (t ∷ states) e = rw (e, compile_lookaround) (sym (or_failure _))
  looked_same true s c m [] e = rw (e, compile_lookaround) (sym (or_failure _))
  looked_same true s c m (t ∷ states) e = rw (e, compile_lookaround) refl

  module _ (P : Steps.MatchState → Type 0) (Q Q' : Steps.MatchState → Steps.MatchState → Type 0) (stays : (s : Steps.MatchState) → P s → Q' s s)
      (returns : (s t : Steps.MatchState) → P s → Q s t → Q' s (record t { position = s.position })) where
    looked-reached : (negate : Bool) (s : Steps.MatchState) → P s → (states : List Steps.MatchState) → All (Q s) states → All (Q' s) (looked negate s states)
    looked-reached false s h [] all = All-nil (Q' s)
    looked-reached false s h (t ∷ states) all = All-cons (Q' s) _ [] (returns s t h (All-head (Q s) t states all)) (All-nil (Q' s))
    looked-reached true s h [] all = All-cons (Q' s) s [] (stays s h) (All-nil (Q' s))
    looked-reached true s h (t ∷ states) all = All-nil (Q' s)

    pub AgreesOn-look : (f : Steps.Matcher) (m : Matcher) → AgreesOn text P Q f m → (negate : Bool) →
        AgreesOn text P Q' (lookaround_matcher negate f) (compile_lookaround negate m)
    unfolding lookaround_matcher
    AgreesOn-look f m agrees negate = record {
      same = λ s h c. looked_same negate s c m (f s) (agrees.same s h accept);
      reached = λ s h. looked-reached negate s h (f s) (agrees.reached s h);
    }

  pub returned : (d e : Direction) (s t : Steps.MatchState) → IsStateOf text s → IsReached text e s t → IsReached text d s (record t { position = s.position })
  returned d e s t in' reached = record {
    state = record { position = in'.position; captures = reached.state.captures };
    onward = IsOnward-refl d s.position;
  }

  pub Agrees-look : (d e : Direction) (f : Steps.Matcher) (m : Matcher) → Agrees text e f m → (negate : Bool) →
      Agrees text d (lookaround_matcher negate f) (compile_lookaround negate m)
  Agrees-look d e =
      AgreesOn-look (IsStateOf text) (IsReached text e) (IsReached text d) (λ s in'. record { state = in'; onward = IsOnward-refl d s.position })
      (returned d e)

  -- ---- tests on a position

  pub if_same : (b : Bool) (c : Continuation) (s : Steps.MatchState) →
      (if b then c (state_on text s) else failure) ≡ first_result text c (if b then s ∷ [] else [])
  if_same true c s = sym (or_failure (c (state_on text s)))
  if_same false c s = refl

  if-reached : (b : Bool) (d : Direction) (s : Steps.MatchState) → IsStateOf text s → All (IsReached text d s) (if b then s ∷ [] else [])
  if-reached true d s in' = reached_itself text d s in'
  if-reached false d s in' = All-nil (IsReached text d s)

  -- a test with the same result at each position of the text
  pub Agrees-hold : (d : Direction) (test : ℕ → Bool) (p : MatchState → Bool) →
      ((s : Steps.MatchState) → IsStateOf text s → p (state_on text s) ≡ test s.position) →
      Agrees text d (hold_at test) (λ x c. if p x then c x else failure)
  unfolding hold_at
  Agrees-hold d test p agree = record {
    same = λ s in' c. ap (λ (b : Bool). if b then c (state_on text s) else failure) (agree s in') ∙ if_same (test s.position) c s;
    reached = λ s in'. if-reached (test s.position) d s in';
  }
