-- The bridge from lists of outcomes to continuations.
use Rattle.std.proofs.Common.{◌≡◌, ℕ, zero, suc, ◌+◌, ◌-◌, ◌<◌, ◌≤◌, min, max, nat_le, nat_lt, ◌==◌, Bool, true, false, not, ◌&&◌, cond, List, [], ◌∷◌, ◌++◌, length, filter, flat_map, Option, Some, None, All, if◌then◌else◌, refl, sym, ap, ap₂, ◌∙◌, arith, append-nil}
use Rattle.std.specs.Option.{option_or}
use Rattle.std.proofs.lemmas.Bool.{eq-eqb, ne_eqb, false≢true}
use Rattle.std.proofs.lemmas.Bool.Decides.{nat_tests}
use Rattle.std.proofs.lemmas.List.Elements.{All-nil, All-cons, All-head, All-tail, All-append, All-weaker, All-filter}
use Rattle.regress_base.specs.declared.types.Quantifier.{Quantifier}
use Rattle.regress_tree.specs.Reading.{Direction, forwards, backwards}
use Rattle.regress_tree.specs.Steps as Steps
use Rattle.regress_tree.specs.Steps.{CaptureSpan, IsStateOf, IsCaptureOf, stay, fail, ◌then_◌, ◌or_◌, captured}
use Rattle.regress_tree.specs.Repetition as Repetition
use Rattle.regress_tree.specs.Repetition.{unset_from, unset, iteration, iterations, moving, up_to, extra_iterations}
use Rattle.regress_tree.specs.WellFormed.{IsQuantifier}
use Rattle.regress_tree.proofs.lemmas.Outcomes.{flat_map-then}
use Rattle.regress_tree.proofs.lemmas.Readings.{IsOnward}
use Rattle.regress_tree.proofs.lemmas.Simulation.{IsReached}
use Rattle.regress_ecma.specs.Notation.{MatchState, MatchResult, failure, Continuation, Matcher}
use Rattle.regress_ecma.specs.Compared.{state_on}
use Rattle.regress_ecma.specs.Repetition.{with_undefined, one_less, is_none_allowed, repeat_matcher, empty_matcher, match_two_alternatives}

-- the first result that a continuation returns on the states of a list
abbrev pub first_result : List ℕ → Continuation → List Steps.MatchState → MatchResult
first_result text c [] = failure
first_result text c (s ∷ states) = option_or (c (state_on text s)) (first_result text c states)

-- In the states of P, the matcher of ECMA-262 returns the first result of its continuation on the outcomes, and each
-- outcome is related by Q to the state.
pub record AgreesOn (text : List ℕ) (P : Steps.MatchState → Type 0) (Q : Steps.MatchState → Steps.MatchState → Type 0) (f : Steps.Matcher) (m : Matcher)
    : Type 0 where
  pub same : (s : Steps.MatchState) → P s → (c : Continuation) → m (state_on text s) c ≡ first_result text c (f s)
  pub reached : (s : Steps.MatchState) → P s → All (Q s) (f s)

-- In states of the text, and the outcomes are states of the text that are not against the direction.
abbrev pub Agrees : (text : List ℕ) (d : Direction) → Steps.Matcher → Matcher → Type 0
Agrees text d f m = AgreesOn text (IsStateOf text) (IsReached text d) f m

pub or_failure : (r : MatchResult) → option_or r failure ≡ r
or_failure None = refl
or_failure (Some z) = refl

pub else_or : (a b : MatchResult) → elim a [ Some z ↦ Some z | None ↦ b ] ≡ option_or a b
else_or None b = refl
else_or (Some z) b = refl

or_assoc : (a b e : MatchResult) → option_or (option_or a b) e ≡ option_or a (option_or b e)
or_assoc None b e = refl
or_assoc (Some z) b e = refl

module _ (text : List ℕ) where
  pub first_result-append : (c : Continuation) (xs ys : List Steps.MatchState) →
      first_result text c (xs ++ ys) ≡ option_or (first_result text c xs) (first_result text c ys)
  first_result-append c [] ys = refl
  first_result-append c (x ∷ xs) ys =
      ap (option_or (c (state_on text x))) (first_result-append c xs ys)
      ∙ sym (or_assoc (c (state_on text x)) (first_result text c xs) (first_result text c ys))

  kept_or_not : (c : Continuation) (g : Steps.Matcher) (b : Bool) (s : Steps.MatchState) (states : List Steps.MatchState) (r rest : MatchResult) →
      r ≡ (if b then first_result text c (g s) else failure) → rest ≡ first_result text c (flat_map g states) →
      option_or r rest ≡ first_result text c (flat_map g (if b then s ∷ states else states))
  kept_or_not c g true s states r rest e others = ap₂ option_or e others ∙ sym (first_result-append c (g s) (flat_map g states))
  kept_or_not c g false s states r rest e others = ap₂ option_or e others

  -- A continuation that fails on what a filter drops, and returns the first result on the outcomes of g from the rest.
  pub first_result-filter : (P : Steps.MatchState → Type 0) (p : Steps.MatchState → Bool) (e c : Continuation) (g : Steps.Matcher) →
      ((s : Steps.MatchState) → P s → e (state_on text s) ≡ (if p s then first_result text c (g s) else failure)) →
      (states : List Steps.MatchState) → All P states → first_result text e states ≡ first_result text c (flat_map g (filter p states))
  first_result-filter P p e c g step [] all = refl
  first_result-filter P p e c g step (s ∷ states) all =
      kept_or_not c g (p s) s (filter p states) _ _ (step s (All-head P s states all))
      (first_result-filter P p e c g step states (All-tail P s states all))

  pub first_result-then : (P : Steps.MatchState → Type 0) (e c : Continuation) (g : Steps.Matcher) →
      ((s : Steps.MatchState) → P s → e (state_on text s) ≡ first_result text c (g s)) →
      (states : List Steps.MatchState) → All P states → first_result text e states ≡ first_result text c (flat_map g states)
  first_result-then P e c g step [] all = refl
  first_result-then P e c g step (s ∷ states) all =
      ap₂ option_or (step s (All-head P s states all)) (first_result-then P e c g step states (All-tail P s states all))
      ∙ sym (first_result-append c (g s) (flat_map g states))

-- ---- directions

pub IsOnward-refl : (d : Direction) (k : ℕ) → IsOnward d k k
IsOnward-refl forwards k = omega arith
IsOnward-refl backwards k = omega arith

pub IsOnward-trans : (d : Direction) (i j k : ℕ) → IsOnward d i j → IsOnward d j k → IsOnward d i k
IsOnward-trans forwards i j k first second = omega arith
IsOnward-trans backwards i j k first second = omega arith

pub reached_itself : (text : List ℕ) (d : Direction) (s : Steps.MatchState) → IsStateOf text s → All (IsReached text d s) (s ∷ [])
reached_itself text d s in' =
    All-cons (IsReached text d s) s [] (record { state = in'; onward = IsOnward-refl d s.position }) (All-nil (IsReached text d s))

pub reached_by_both : (text : List ℕ) (d : Direction) (r s t : Steps.MatchState) → IsReached text d r s → IsReached text d s t → IsReached text d r t
reached_by_both text d r s t first second = record {
  state = second.state;
  onward = IsOnward-trans d r.position s.position t.position first.onward second.onward;
}

pub flat_map-all : (P Q : Steps.MatchState → Type 0) (g : Steps.Matcher) → ((s : Steps.MatchState) → P s → All Q (g s)) →
    (states : List Steps.MatchState) → All P states → All Q (flat_map g states)
flat_map-all P Q g each [] all = All-nil Q
flat_map-all P Q g each (s ∷ states) all =
    All-append Q (g s) (flat_map g states) (each s (All-head P s states all)) (flat_map-all P Q g each states (All-tail P s states all))

-- What states have, and what relates a state to those reached from it, in any number of steps.
pub record IsKept (text : List ℕ) (d : Direction) (P : Steps.MatchState → Type 0) (Q : Steps.MatchState → Steps.MatchState → Type 0) : Type 0 where
  pub state : (s : Steps.MatchState) → P s → IsStateOf text s
  pub reached : (s t : Steps.MatchState) → Q s t → IsReached text d s t
  pub itself : (s : Steps.MatchState) → P s → Q s s
  pub next : (s t : Steps.MatchState) → P s → Q s t → P t
  pub both : (r s t : Steps.MatchState) → Q r s → Q s t → Q r t

states_kept : (text : List ℕ) (d : Direction) → IsKept text d (IsStateOf text) (IsReached text d)
states_kept text d = record {
  state = λ s in'. in';
  reached = λ s t reached. reached;
  itself = λ s in'. record { state = in'; onward = IsOnward-refl d s.position };
  next = λ s t in' reached. reached.state;
  both = reached_by_both text d;
}

-- ---- the empty text, alternatives and sequences

module _ (text : List ℕ) (P : Steps.MatchState → Type 0) (Q : Steps.MatchState → Steps.MatchState → Type 0) where
  itself_only : ((s : Steps.MatchState) → P s → Q s s) → (s : Steps.MatchState) → P s → All (Q s) (s ∷ [])
  itself_only itself s h = All-cons (Q s) s [] (itself s h) (All-nil (Q s))

  pub AgreesOn-empty : ((s : Steps.MatchState) → P s → Q s s) → AgreesOn text P Q stay empty_matcher
  AgreesOn-empty itself = record { same = λ s h c. sym (or_failure (c (state_on text s))); reached = itself_only itself }

  pub AgreesOn-or : (f g : Steps.Matcher) (m n : Matcher) → AgreesOn text P Q f m → AgreesOn text P Q g n →
      AgreesOn text P Q (f or_ g) (match_two_alternatives m n)
  AgreesOn-or f g m n first second = record {
    same = λ s h c.
        else_or (m (state_on text s) c) (n (state_on text s) c)
        ∙ ap₂ option_or (first.same s h c) (second.same s h c) ∙ sym (first_result-append text c (f s) (g s));
    reached = λ s h. All-append (Q s) (f s) (g s) (first.reached s h) (second.reached s h);
  }

  -- in fewer states, and with a wider relation
  pub AgreesOn-fewer : (P' : Steps.MatchState → Type 0) (Q' : Steps.MatchState → Steps.MatchState → Type 0) (f : Steps.Matcher) (m : Matcher) →
      AgreesOn text P' Q' f m → ((s : Steps.MatchState) → P s → P' s) → ((s t : Steps.MatchState) → P s → Q' s t → Q s t) → AgreesOn text P Q f m
  AgreesOn-fewer P' Q' f m agrees fewer wider = record {
    same = λ s h c. agrees.same s (fewer s h) c;
    reached = λ s h. All-weaker (Q' s) (Q s) (λ t. wider s t h) (f s) (agrees.reached s (fewer s h));
  }

  -- f and then g, in this order
  pub AgreesOn-then : (P' : Steps.MatchState → Type 0) (Q' Q'' : Steps.MatchState → Steps.MatchState → Type 0) →
      ((s t : Steps.MatchState) → P s → Q s t → P' t) → ((s t u : Steps.MatchState) → P s → Q s t → Q' t u → Q'' s u) →
      (f g : Steps.Matcher) (m n : Matcher) → AgreesOn text P Q f m → AgreesOn text P' Q' g n → AgreesOn text P Q'' (f then_ g) (λ x c. m x (λ y. n y c))
  AgreesOn-then P' Q' Q'' next both f g m n first second = record {
    same = λ s h c.
        first.same s h (λ y. n y c)
        ∙ first_result-then text (Q s) (λ y. n y c) c g (λ t k. second.same t (next s t h k) c) (f s) (first.reached s h);
    reached = λ s h.
        flat_map-all (Q s) (Q'' s) g
        (λ t k. All-weaker (Q' t) (Q'' s) (λ u. both s t u h k) (g t) (second.reached t (next s t h k))) (f s) (first.reached s h);
  }

module _ (text : List ℕ) (d : Direction) where
  pub Agrees-empty : Agrees text d stay empty_matcher
  Agrees-empty = AgreesOn-empty text (IsStateOf text) (IsReached text d) (states_kept text d).itself

  pub Agrees-or : (f g : Steps.Matcher) (m n : Matcher) → Agrees text d f m → Agrees text d g n →
      Agrees text d (f or_ g) (match_two_alternatives m n)
  Agrees-or f g m n = AgreesOn-or text (IsStateOf text) (IsReached text d) f g m n

  pub Agrees-then : (f g : Steps.Matcher) (m n : Matcher) → Agrees text d f m → Agrees text d g n →
      Agrees text d (f then_ g) (λ x c. m x (λ y. n y c))
  Agrees-then =
      AgreesOn-then text (IsStateOf text) (IsReached text d) (IsStateOf text) (IsReached text d) (IsReached text d)
      (λ s t in' reached. reached.state) (λ r s t in' first second. reached_by_both text d r s t first second)

-- ---- quantifiers

-- how much of the text is left
abbrev left : Direction → List ℕ → ℕ → ℕ
left forwards text k = length text - k
left backwards text k = k

left-le : (d : Direction) (text : List ℕ) (k : ℕ) → k ≤ length text → left d text k ≤ length text
left-le forwards text k h = omega arith
left-le backwards text k h = omega arith

less_left : (d : Direction) (text : List ℕ) (s t : Steps.MatchState) → IsReached text d s t → (t.position == s.position) ≡ false →
    left d text t.position < left d text s.position
less_left forwards text s t r moved = omega (arith, (λ (e : t.position ≡ s.position). false≢true (sym moved ∙ eq-eqb _ _ e)), r.onward, r.state.position)
less_left backwards text s t r moved = omega (arith, (λ (e : t.position ≡ s.position). false≢true (sym moved ∙ eq-eqb _ _ e)), r.onward)

-- n iterations are all that the maximum allows, or more than what is left
abbrev IsBound : ℕ → Option ℕ → ℕ → Type 0
IsBound n None l = l < n
IsBound n (Some k) l = (n ≤ k) × (n < k → l < n)

undefined_test : (start count j k : ℕ) → j ≡ k + 1 →
    (nat_le (start + 1) j && nat_le j (start + count)) ≡ (nat_le start k && nat_lt k (start + count))
undefined_test start count j k e = grind (arith, nat_tests)

undefined_same : (start count j k : ℕ) → j ≡ k + 1 → (cs : List (Option CaptureSpan)) →
    with_undefined j start count cs ≡ unset_from k start (start + count) cs
undefined_same start count j k e [] = refl
undefined_same start count j k e (c ∷ cs) =
    ap₂ (λ (b : Bool) (rest : List (Option CaptureSpan)). (if b then None else c) ∷ rest) (undefined_test start count j k e)
    (undefined_same start count (j + 1) (k + 1) (omega arith) cs)

cond-within : (text : List ℕ) (b : Bool) (c : Option CaptureSpan) → IsCaptureOf text c → IsCaptureOf text (cond b None c)
cond-within text true c h = tt
cond-within text false c h = h

unset_from-within : (text : List ℕ) (k start end : ℕ) (cs : List (Option CaptureSpan)) → All (IsCaptureOf text) cs →
    All (IsCaptureOf text) (unset_from k start end cs)
unset_from-within text k start end [] all = all
unset_from-within text k start end (c ∷ cs) all =
    All-cons (IsCaptureOf text) _ _ (cond-within text (nat_le start k && nat_lt k end) c (All-head (IsCaptureOf text) c cs all))
    (unset_from-within text (k + 1) start end cs (All-tail (IsCaptureOf text) c cs all))

abbrev less_by : ℕ → Option ℕ → Option ℕ
less_by min None = None
less_by min (Some max) = Some (max - min)

abbrev IsAtLeast : ℕ → Option ℕ → Type 0
IsAtLeast min None = Unit {0}
IsAtLeast min (Some max) = min ≤ max

bound_of_less : (n min l : ℕ) (max : Option ℕ) → IsAtLeast (suc min) max → IsBound n (less_by (suc min) max) l →
    IsBound n (less_by min (one_less max)) l
bound_of_less n min l None least bound = bound
bound_of_less n min l (Some max) least bound = (omega (arith, bound.0), λ short. omega (arith, bound.1 (omega arith)))

at_least_less : (min : ℕ) (max : Option ℕ) → IsAtLeast (suc min) max → IsAtLeast min (one_less max)
at_least_less min None least = tt
at_least_less min (Some max) least = omega (arith, least)

some_allowed : (min : ℕ) (max : Option ℕ) → IsAtLeast (suc min) max → is_none_allowed max ≡ false
some_allowed min None least = refl
some_allowed min (Some max) least = ne_eqb max 0 (omega (arith, least))

bound_of_rest : (n l k : ℕ) (max : Option ℕ) → k ≤ l → IsBound n (less_by 0 max) l → IsBound n max k
bound_of_rest n l k None h bound = omega (arith, bound)
bound_of_rest n l k (Some max) h bound = (omega (arith, bound.0), λ short. omega (arith, bound.1 (omega arith)))

choose : (b : Bool) (r q : MatchResult) → (b ≡ false → r ≡ q) → (if b then failure else r) ≡ (if not b then q else failure)
choose true r q h = refl
choose false r q h = h refl

pub unset-within : (text : List ℕ) (start end : ℕ) (s : Steps.MatchState) → IsStateOf text s → IsStateOf text (unset start end s)
unset-within text start end s in' = record {
  position = in'.position;
  captures = unset_from-within text 0 start end s.captures in'.captures;
}

-- the body of a loop, in one iteration
abbrev IterationAgrees : (text : List ℕ) (P : Steps.MatchState → Type 0) (Q : Steps.MatchState → Steps.MatchState → Type 0) (f : Steps.Matcher) (m : Matcher)
    (start count : ℕ) → Type 0
IterationAgrees text P Q f m start count =
    AgreesOn text P Q (iteration start (start + count) f) (λ x c. m (record x { captures = with_undefined 1 start count x.captures }) c)

iteration_agrees : (text : List ℕ) (P P' : Steps.MatchState → Type 0) (Q Q' : Steps.MatchState → Steps.MatchState → Type 0) (f : Steps.Matcher) (m : Matcher)
    (start count : ℕ) → AgreesOn text P' Q' f m → ((s : Steps.MatchState) → P s → P' (unset start (start + count) s)) →
    ((s t : Steps.MatchState) → P s → Q' (unset start (start + count) s) t → Q s t) → IterationAgrees text P Q f m start count
iteration_agrees text P P' Q Q' f m start count agrees enter leave = record {
  same = λ s h c.
      ap (λ cs. m (record (state_on text s) { captures = cs }) c) (undefined_same start count 1 0 refl s.captures)
      ∙ agrees.same (unset start (start + count) s) (enter s h) c;
  reached = λ s h.
      All-weaker (Q' (unset start (start + count) s)) (Q s) (λ t. leave s t h) (iteration start (start + count) f s)
      (agrees.reached (unset start (start + count) s) (enter s h));
}

module _ (text : List ℕ) (d : Direction) (P : Steps.MatchState → Type 0) (Q : Steps.MatchState → Steps.MatchState → Type 0) (kept : IsKept text d P Q)
    (f : Steps.Matcher) (m : Matcher) (start count : ℕ) (once : IterationAgrees text P Q f m start count) where
  abbrev G : Steps.Matcher
  G = iteration start (start + count) f

  and_then : (g : Steps.Matcher) → ((s : Steps.MatchState) → P s → All (Q s) (g s)) → (r : Steps.MatchState) → P r →
      (states : List Steps.MatchState) → All (Q r) states → All (Q r) (flat_map g states)
  and_then g each r h states all =
      flat_map-all (Q r) (Q r) g
      (λ s k. All-weaker (Q s) (Q r) (λ t. kept.both r s t k) (g s) (each s (kept.next r s h k))) states all

  -- ---- past the minimum

  abbrev after_iteration : (greedy : Bool) (fuel : ℕ) (max : Option ℕ) (s : Steps.MatchState) (c : Continuation) → Continuation
  after_iteration greedy fuel max s c y =
      if y.end_index == s.position then failure else repeat_matcher fuel m 0 (one_less max) greedy y c start count

  abbrev IsNext : (greedy : Bool) (fuel n : ℕ) (max : Option ℕ) (s : Steps.MatchState) (c : Continuation) → Type 0
  IsNext greedy fuel n max s c =
      (t : Steps.MatchState) → P t → left d text t.position < left d text s.position →
      repeat_matcher fuel m 0 (one_less max) greedy (state_on text t) c start count ≡ first_result text c (up_to greedy n G t)

  one_more : (greedy : Bool) (fuel n : ℕ) (max : Option ℕ) (s : Steps.MatchState) (c : Continuation) → P s →
      IsNext greedy fuel n max s c →
      m (record (state_on text s) { captures = with_undefined 1 start count s.captures }) (after_iteration greedy fuel max s c)
      ≡ first_result text c (flat_map (up_to greedy n G) (moving G s))
  one_more greedy fuel n max s c in' next =
      once.same s in' (after_iteration greedy fuel max s c)
      ∙ first_result-filter text (Q s) (λ t. not (t.position == s.position)) (after_iteration greedy fuel max s c) c (up_to greedy n G)
      (λ t h. choose (t.position == s.position) _ _ (λ moved. next t (kept.next s t in' h) (less_left d text s t (kept.reached s t h) moved)))
      (G s) (once.reached s in')

  goes_on : (greedy : Bool) (fuel n : ℕ) (max : Option ℕ) (s : Steps.MatchState) (c : Continuation) → P s →
      is_none_allowed max ≡ false → IsNext greedy fuel n max s c →
      repeat_matcher (suc fuel) m 0 max greedy (state_on text s) c start count ≡ first_result text c (up_to greedy (suc n) G s)
  unfolding repeat_matcher
  goes_on true fuel n max s c in' some next =
      rw some
      (else_or _ (c (state_on text s))
      ∙ ap₂ option_or (one_more true fuel n max s c in' next) (sym (or_failure (c (state_on text s))))
      ∙ sym (first_result-append text c (flat_map (up_to true n G) (moving G s)) (s ∷ [])))
  goes_on false fuel n max s c in' some next =
      rw some
      (else_or (c (state_on text s)) _
      ∙ ap (option_or (c (state_on text s))) (one_more false fuel n max s c in' next))

  past_minimum : (greedy : Bool) (fuel n : ℕ) (max : Option ℕ) (s : Steps.MatchState) (c : Continuation) → P s →
      left d text s.position < fuel → IsBound n max (left d text s.position) →
      repeat_matcher fuel m 0 max greedy (state_on text s) c start count ≡ first_result text c (up_to greedy n G s)
  unfolding repeat_matcher
  past_minimum greedy zero n max s c in' enough bound = absurd (omega arith)
  past_minimum greedy (suc fuel) zero None s c in' enough bound = absurd (omega (arith, bound))
  past_minimum greedy (suc fuel) zero (Some zero) s c in' enough bound = sym (or_failure (c (state_on text s)))
  past_minimum greedy (suc fuel) zero (Some (suc k)) s c in' enough bound = absurd (omega (arith, bound.1 (omega arith)))
  past_minimum greedy (suc fuel) (suc n) None s c in' enough bound =
      goes_on greedy fuel n None s c in' refl
      (λ t h less. past_minimum greedy fuel n None t c h (omega arith) (omega (arith, bound)))
  past_minimum greedy (suc fuel) (suc n) (Some zero) s c in' enough bound = absurd (omega (arith, bound.0))
  past_minimum greedy (suc fuel) (suc n) (Some (suc k)) s c in' enough bound =
      goes_on greedy fuel n (Some (suc k)) s c in' (ne_eqb (suc k) 0 (omega arith))
      (λ t h less. past_minimum greedy fuel n (Some (suc k - 1)) t c h (omega arith)
      (omega (arith, bound.0), λ short. omega (arith, bound.1 (omega arith))))

  -- ---- the minimum

  iterations-reached : (n : ℕ) (s : Steps.MatchState) → P s → All (Q s) (iterations n G s)
  iterations-reached zero s in' = itself_only text P Q kept.itself s in'
  iterations-reached (suc n) s in' = and_then (iterations n G) (iterations-reached n) s in' (G s) (once.reached s in')

  abbrev IsRepeated : (greedy : Bool) (fuel n min : ℕ) (max : Option ℕ) (s : Steps.MatchState) (c : Continuation) → Type 0
  IsRepeated greedy fuel n min max s c =
      repeat_matcher fuel m min max greedy (state_on text s) c start count
      ≡ first_result text c ((iterations min G then_ up_to greedy n G) s)

  -- one iteration of the minimum
  first_iteration : (greedy : Bool) (fuel n min : ℕ) (max : Option ℕ) (s : Steps.MatchState) (c : Continuation) → P s →
      is_none_allowed max ≡ false → ((t : Steps.MatchState) → P t → IsRepeated greedy fuel n min (one_less max) t c) →
      IsRepeated greedy (suc fuel) n (suc min) max s c
  unfolding repeat_matcher
  first_iteration greedy fuel n min max s c in' some next =
      let some_left : (suc min == 0) ≡ false = ne_eqb (suc min) 0 (omega arith) in
      let before : suc min - 1 ≡ min = omega arith in
      let rest : Continuation = λ y. repeat_matcher fuel m min (one_less max) greedy y c start count in
      let xr : MatchState = record (state_on text s) { captures = with_undefined 1 start count s.captures } in
      rw (some, some_left)
      (ap (λ (k : ℕ). m xr (λ y. repeat_matcher fuel m k (one_less max) greedy y c start count)) before
      ∙ once.same s in' rest
      ∙ first_result-then text (Q s) rest c (iterations min G then_ up_to greedy n G) (λ t h. next t (kept.next s t in' h))
      (G s) (once.reached s in')
      ∙ ap (first_result text c) (flat_map-then (iterations min G) (up_to greedy n G) (G s)))

  repeated : (greedy : Bool) (fuel n min : ℕ) (max : Option ℕ) (s : Steps.MatchState) (c : Continuation) → P s →
      min + length text < fuel → IsAtLeast min max → IsBound n (less_by min max) (length text) → IsRepeated greedy fuel n min max s c
  repeated greedy zero n min max s c in' enough least bound = absurd (omega arith)
  repeated greedy (suc fuel) n zero max s c in' enough least bound =
      let within = left-le d text s.position (kept.state s in').position in
      past_minimum greedy (suc fuel) n max s c in' (omega (arith, within)) (bound_of_rest n (length text) _ max within bound)
      ∙ ap (first_result text c) (sym (append-nil (up_to greedy n G s)))
  repeated greedy (suc fuel) n (suc min) max s c in' enough least bound =
      first_iteration greedy fuel n min max s c in' (some_allowed min max least)
      (λ t h. repeated greedy fuel n min (one_less max) t c h (omega arith) (at_least_less min max least) (bound_of_less n min (length text) max least bound))

  up_to-reached : (greedy : Bool) (n : ℕ) (s : Steps.MatchState) → P s → All (Q s) (up_to greedy n G s)
  up_to-reached greedy zero s in' = itself_only text P Q kept.itself s in'
  up_to-reached true (suc n) s in' =
      All-append (Q s) (flat_map (up_to true n G) (moving G s)) (s ∷ [])
      (and_then (up_to true n G) (up_to-reached true n) s in' (moving G s)
      (All-filter (λ t. not (t.position == s.position)) (Q s) (G s) (once.reached s in')))
      (itself_only text P Q kept.itself s in')
  up_to-reached false (suc n) s in' =
      All-append (Q s) (s ∷ []) (flat_map (up_to false n G) (moving G s)) (itself_only text P Q kept.itself s in')
      (and_then (up_to false n G) (up_to-reached false n) s in' (moving G s)
      (All-filter (λ t. not (t.position == s.position)) (Q s) (G s) (once.reached s in')))

extra_bound : (text : List ℕ) (q : Quantifier) → IsQuantifier q →
    IsAtLeast q.min q.max × IsBound (extra_iterations (length text + 1) q) (less_by q.min q.max) (length text)
extra_bound text q is =
    (elim q.max as (λ m. IsQuantifier (record q { max = m }) → IsAtLeast q.min m
    × IsBound (extra_iterations (length text + 1) (record q { max = m })) (less_by q.min m) (length text)) [
      | None ↦ λ h. (tt, omega arith)
      | Some max ↦ λ h. (h, (omega arith, λ short. omega arith))
    ]) is

-- A quantified part: RepeatMatcher with enough fuel, and a loop of the dialect. Each iteration enters a state of the body
-- and leaves it in one of the loop.
pub AgreesOn-repeat : (text : List ℕ) (d : Direction) (P P' : Steps.MatchState → Type 0) (Q Q' : Steps.MatchState → Steps.MatchState → Type 0) →
    IsKept text d P Q → (f : Steps.Matcher) (m : Matcher) → AgreesOn text P' Q' f m → (start count : ℕ) →
    ((s : Steps.MatchState) → P s → P' (unset start (start + count) s)) →
    ((s t : Steps.MatchState) → P s → Q' (unset start (start + count) s) t → Q s t) → (q : Quantifier) →
    IsQuantifier q → (fuel : ℕ) → length text < fuel →
    AgreesOn text P Q (Repetition.repeat_matcher (length text + 1) q start (start + count) f)
    (λ x c. repeat_matcher (q.min + fuel) m q.min q.max q.greedy x c start count)
unfolding Repetition.repeat_matcher
AgreesOn-repeat text d P P' Q Q' kept f m agrees start count enter leave q is fuel enough =
    let bounds = extra_bound text q is in
    let n : ℕ = extra_iterations (length text + 1) q in
    let once = iteration_agrees text P P' Q Q' f m start count agrees enter leave in
    record {
      same = λ s h c.
          repeated text d P Q kept f m start count once q.greedy (q.min + fuel) n q.min q.max s c h (omega arith) bounds.0 bounds.1;
      reached = λ s h.
          and_then text d P Q kept f m start count once (up_to q.greedy n (iteration start (start + count) f))
          (up_to-reached text d P Q kept f m start count once q.greedy n) s h
          (iterations q.min (iteration start (start + count) f) s) (iterations-reached text d P Q kept f m start count once q.min s h);
    }

pub Agrees-repeat : (text : List ℕ) (d : Direction) (f : Steps.Matcher) (m : Matcher) → Agrees text d f m → (start count : ℕ) (q : Quantifier) →
    IsQuantifier q → (fuel : ℕ) → length text < fuel →
    Agrees text d (Repetition.repeat_matcher (length text + 1) q start (start + count) f)
    (λ x c. repeat_matcher (q.min + fuel) m q.min q.max q.greedy x c start count)
Agrees-repeat text d f m agrees start count =
    AgreesOn-repeat text d (IsStateOf text) (IsStateOf text) (IsReached text d) (IsReached text d) (states_kept text d) f m agrees start count
    (unset-within text start (start + count)) (λ s t in' reached. record { state = reached.state; onward = reached.onward })
