-- A loop over the bytes of a text matches what it matches over its characters. The bound makes no difference once it
-- exceeds the remaining text.
use Rattle.std.proofs.Common.{◌≡◌, ◌⊎◌, inl, inr, ⊎_elim, ℕ, zero, suc, ◌+◌, ◌-◌, ◌<◌, ◌≤◌, nat_le, nat_lt, ◌==◌, Bool, true, false, not, ◌&&◌, cond, List, [], ◌∷◌, ◌++◌, length, map, filter, flat_map, Option, Some, None, All, encode_utf8_all, refl, sym, ap, ap₂, subst, ◌∙◌, arith}
use Rattle.std.proofs.lemmas.Bool.{cases_lt, eq-eqb, false≢true}
use Rattle.std.proofs.lemmas.List.Elements.{All-cons, All-head, All-tail, All-filter, filter_passes}
use Rattle.std.proofs.lemmas.Str.{length-le-encodes}
use Rattle.regress_base.specs.declared.types.Quantifier.{Quantifier}
use Rattle.regress_tree.specs.Reading.{Direction, forwards, backwards, byte_position}
use Rattle.regress_tree.specs.Steps.{CaptureSpan, MatchState, Matcher, IsStateOf, IsCaptureOf, byte_state, byte_capture, stay}
use Rattle.regress_tree.specs.Repetition.{unset_from, unset, iteration, iterations, moving, up_to, extra_iterations, repeat_matcher}
use Rattle.regress_tree.proofs.lemmas.ByteStates.{eqb-byte_position, filter-byte_state}
use Rattle.regress_tree.proofs.lemmas.Simulation.{IsReached, Simulates, Simulates-within, Simulates-stay, Simulates-then, Simulates-or}

-- ---- one iteration

module _ (text : List ℕ) where
  cond-byte_capture : (b : Bool) (c : Option CaptureSpan) → cond b None (byte_capture text c) ≡ byte_capture text (cond b None c)
  cond-byte_capture true c = refl
  cond-byte_capture false c = refl

  cond-within : (b : Bool) (c : Option CaptureSpan) → IsCaptureOf text c → IsCaptureOf text (cond b None c)
  cond-within true c h = tt
  cond-within false c h = h

  unset_from-byte_capture : (k start end : ℕ) (cs : List (Option CaptureSpan)) →
      unset_from k start end (map (byte_capture text) cs) ≡ map (byte_capture text) (unset_from k start end cs)
  unset_from-byte_capture k start end [] = refl
  unset_from-byte_capture k start end (c ∷ cs) =
      ap₂ ◌∷◌ (cond-byte_capture (nat_le start k && nat_lt k end) c) (unset_from-byte_capture (k + 1) start end cs)

  unset_from-within : (k start end : ℕ) (cs : List (Option CaptureSpan)) → All (IsCaptureOf text) cs →
      All (IsCaptureOf text) (unset_from k start end cs)
  unset_from-within k start end [] all = all
  unset_from-within k start end (c ∷ cs) all =
      All-cons (IsCaptureOf text) _ _ (cond-within (nat_le start k && nat_lt k end) c (All-head (IsCaptureOf text) c cs all))
      (unset_from-within (k + 1) start end cs (All-tail (IsCaptureOf text) c cs all))

  unset-byte_state : (start end : ℕ) (s : MatchState) → unset start end (byte_state text s) ≡ byte_state text (unset start end s)
  unset-byte_state start end s =
      ap (λ (cs : List (Option CaptureSpan)). record { position = byte_position text s.position; captures = cs })
      (unset_from-byte_capture 0 start end s.captures)

  unset-within : (start end : ℕ) (s : MatchState) → IsStateOf text s → IsStateOf text (unset start end s)
  unset-within start end s in' = record { position = in'.position; captures = unset_from-within 0 start end s.captures in'.captures }

-- ---- the length of the remaining text

abbrev left : Direction → List ℕ → ℕ → ℕ
left forwards text k = length text - k
left backwards text k = k

-- a state of the text with less remaining text
record IsFurther (text : List ℕ) (d : Direction) (from to : MatchState) : Type 0 where
  state : IsStateOf text to
  less : left d text to.position < left d text from.position

left-le : (d : Direction) (text : List ℕ) (k : ℕ) → k ≤ length text → left d text k ≤ length text
left-le forwards text k h = omega arith
left-le backwards text k h = omega arith

less_left : (d : Direction) (text : List ℕ) (s t : MatchState) → IsReached text d s t → (t.position ≡ s.position → ⊥) →
    left d text t.position < left d text s.position
less_left forwards text s t r moved = omega (arith, moved, r.onward, r.state.position)
less_left backwards text s t r moved = omega (arith, moved, r.onward)

reached_further : (d : Direction) (text : List ℕ) (s t : MatchState) → IsReached text d s t → not (t.position == s.position) ≡ true →
    IsFurther text d s t
reached_further d text s t r moves = record {
  state = r.state;
  less = less_left d text s t r (λ e. false≢true (sym (ap not (eq-eqb t.position s.position e)) ∙ moves));
}

flat_map-agree : (P : MatchState → Type 0) (f g : Matcher) → ((s : MatchState) → P s → f s ≡ g s) → (states : List MatchState) → All P states →
    flat_map f states ≡ flat_map g states
flat_map-agree P f g agree [] all = refl
flat_map-agree P f g agree (s ∷ states) all =
    ap₂ ◌++◌ (agree s (All-head P s states all)) (flat_map-agree P f g agree states (All-tail P s states all))

module _ (text : List ℕ) (d : Direction) (f g : Matcher) (sim : Simulates text d f g) where
  Simulates-iteration : (start end : ℕ) → Simulates text d (iteration start end f) (iteration start end g)
  Simulates-iteration start end = record {
    same = λ s in'. ap g (unset-byte_state text start end s) ∙ sim.same (unset start end s) (unset-within text start end s in');
    reached = λ s in' k e h.
        let r = sim.reached (unset start end s) (unset-within text start end s in') k e h in
        record { state = r.state; onward = r.onward };
  }

  Simulates-iterations : (n : ℕ) → Simulates text d (iterations n f) (iterations n g)
  Simulates-iterations zero = Simulates-stay text d
  Simulates-iterations (suc n) = Simulates-then text d f g (iterations n f) (iterations n g) sim (Simulates-iterations n)

  Simulates-moving : Simulates text d (moving f) (moving g)
  Simulates-moving = record {
    same = λ s in'.
        ap (filter (λ t. not (t.position == byte_position text s.position))) (sim.same s in')
        ∙ filter-byte_state text (λ t. not (t.position == byte_position text s.position)) (λ t. not (t.position == s.position))
        (λ t ht. ap not (eqb-byte_position text t.position s.position ht.position in'.position)) (f s) (Simulates-within text d f g sim s in');
    reached = λ s in'. All-filter (λ t. not (t.position == s.position)) (IsReached text d s) (f s) (sim.reached s in');
  }

  Simulates-up_to : (greedy : Bool) (n : ℕ) → Simulates text d (up_to greedy n f) (up_to greedy n g)
  Simulates-up_to greedy zero = Simulates-stay text d
  Simulates-up_to true (suc n) =
      Simulates-or text d _ _ stay stay (Simulates-then text d _ _ _ _ Simulates-moving (Simulates-up_to true n)) (Simulates-stay text d)
  Simulates-up_to false (suc n) =
      Simulates-or text d stay stay _ _ (Simulates-stay text d) (Simulates-then text d _ _ _ _ Simulates-moving (Simulates-up_to false n))

  -- After an iteration that advances, less of the text remains.
  moving-further : (s : MatchState) → IsStateOf text s → All (IsFurther text d s) (moving f s)
  moving-further s in' k e h =
      reached_further d text s _
      (All-filter (λ t. not (t.position == s.position)) (IsReached text d s) (f s) (sim.reached s in') k e h)
      (filter_passes (λ t. not (t.position == s.position)) (f s) k e h)

  -- Any two bounds that exceed the remaining text give the same outcomes.
  up_to-bound : (greedy : Bool) (n m : ℕ) (s : MatchState) → IsStateOf text s → left d text s.position < n → left d text s.position < m →
      up_to greedy n f s ≡ up_to greedy m f s
  up_to-bound greedy zero m s in' hn hm = absurd (omega arith)
  up_to-bound greedy (suc n) zero s in' hn hm = absurd (omega arith)
  up_to-bound true (suc n) (suc m) s in' hn hm =
      ap (λ states. states ++ (s ∷ []))
      (flat_map-agree (IsFurther text d s) (up_to true n f) (up_to true m f)
      (λ t further. up_to-bound true n m t further.state (omega (arith, further.less)) (omega (arith, further.less)))
      (moving f s) (moving-further s in'))
  up_to-bound false (suc n) (suc m) s in' hn hm =
      ap (λ states. s ∷ states)
      (flat_map-agree (IsFurther text d s) (up_to false n f) (up_to false m f)
      (λ t further. up_to-bound false n m t further.state (omega (arith, further.less)) (omega (arith, further.less)))
      (moving f s) (moving-further s in'))

  -- with bounds that are equal, or exceed the length of the text
  Simulates-up_to_bounds : (greedy : Bool) (n m : ℕ) → (n ≡ m) ⊎ ((length text < n) × (length text < m)) →
      Simulates text d (up_to greedy n f) (up_to greedy m g)
  Simulates-up_to_bounds greedy n m (inl e) =
      subst (λ j. Simulates text d (up_to greedy n f) (up_to greedy j g)) e (Simulates-up_to greedy n)
  Simulates-up_to_bounds greedy n m (inr past) =
      let sims = Simulates-up_to greedy m in
      let same : (s : MatchState) → IsStateOf text s → up_to greedy n f s ≡ up_to greedy m f s =
      λ s in'.
      let within : left d text s.position ≤ length text = left-le d text s.position in'.position in
      up_to-bound greedy n m s in' (omega (arith, past.0)) (omega (arith, past.1)) in
      record {
        same = λ s in'. sims.same s in' ∙ ap (map (byte_state text)) (sym (same s in'));
        reached = λ s in'. subst (All (IsReached text d s)) (sym (same s in')) (sims.reached s in');
      }

extra_iterations-bound : (low high : ℕ) (q : Quantifier) → low ≤ high →
    (extra_iterations (low + 1) q ≡ extra_iterations (high + 1) q) ⊎ ((low < extra_iterations (low + 1) q) × (low < extra_iterations (high + 1) q))
extra_iterations-bound low high q h =
    elim q.max as (λ m.
    (extra_iterations (low + 1) (record q { max = m }) ≡ extra_iterations (high + 1) (record q { max = m }))
    ⊎ ((low < extra_iterations (low + 1) (record q { max = m })) × (low < extra_iterations (high + 1) (record q { max = m })))) [
      | None ↦ inr (omega arith, omega arith)
      | Some max ↦
          ⊎_elim (λ (few : max - q.min < low + 1). inl (omega arith)) (λ (many : low + 1 ≤ max - q.min). inr (omega arith, omega arith))
          (cases_lt (max - q.min) (low + 1))
    ]

pub Simulates-repeat : (text : List ℕ) (d : Direction) (q : Quantifier) (start end : ℕ) (f g : Matcher) → Simulates text d f g →
    Simulates text d (repeat_matcher (length text + 1) q start end f) (repeat_matcher (length (encode_utf8_all text) + 1) q start end g)
unfolding repeat_matcher
Simulates-repeat text d q start end f g sim =
    let turned = Simulates-iteration text d f g sim start end in
    Simulates-then text d _ _ _ _ (Simulates-iterations text d _ _ turned q.min)
    (Simulates-up_to_bounds text d _ _ turned q.greedy _ _
    (extra_iterations-bound (length text) (length (encode_utf8_all text)) q (length-le-encodes text)))
