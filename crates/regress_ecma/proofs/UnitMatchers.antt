-- Matchers of ECMA-262 over the code units of a text do what they do over its characters, from the index of a position.
use Rattle.std.proofs.Common.{◌≡◌, ℕ, zero, suc, ◌+◌, ◌-◌, ◌==◌, min, max, nat_le, Bool, true, false, not, ◌&&◌, List, [], ◌∷◌, map, Option, Some, None, All, if◌then◌else◌, refl, sym, ap, ap₂, subst, ◌∙◌}
use Rattle.std.specs.Option.{option_or}
use Rattle.std.specs.Prelude.{slice_set}
use Rattle.std.proofs.lemmas.List.{map-set}
use Rattle.std.proofs.lemmas.List.Elements.{All-nil, All-cons, All-head, All-tail}
use Rattle.regress_base.specs.declared.types.Quantifier.{Quantifier}
use Rattle.regress_tree.specs.Reading.{Direction, forwards, backwards}
use Rattle.regress_tree.specs.Steps as Steps
use Rattle.regress_tree.specs.Steps.{CaptureSpan, IsStateOf, IsCaptureOf, IsSpanOf}
use Rattle.regress_tree.proofs.lemmas.Simulation.{IsReached}
use Rattle.regress_ecma.specs.CodeUnits.{code_units, unit_capture, unit_position}
use Rattle.regress_ecma.specs.Notation.{MatchState, MatchResult, failure, Continuation, Matcher}
use Rattle.regress_ecma.specs.Assertions.{accept, compile_lookaround}
use Rattle.regress_ecma.specs.Compared.{state_on}
use Rattle.regress_ecma.specs.Compile.{quantified, range_between, compile_capture}
use Rattle.regress_ecma.specs.Repetition.{with_undefined, one_less, is_none_allowed, repeat_matcher, empty_matcher, match_two_alternatives, match_sequence}
use Rattle.regress_ecma.proofs.Bridge.{first_result, Agrees, IsOnward-refl, reached_by_both}
use Rattle.regress_ecma.proofs.Groups.{range_same, captured-reached}
use Rattle.regress_ecma.proofs.UnitPositions.{unit_position-eq, unit_position-le, unit_position-within}
use Rattle.regress_ecma.proofs.UnitSteps.{unit_state}

module _ (text : List ℕ) where
  abbrev units : List ℕ
  units = code_units text

  abbrev image : Steps.MatchState → Steps.MatchState
  image = unit_state text

  -- ---- states

  capture-within : (capture : Option CaptureSpan) → IsCaptureOf text capture → IsCaptureOf units (unit_capture text capture)
  capture-within None h = tt
  capture-within (Some span) h = record {
    ordered = unit_position-le text span.0 span.1 h.ordered h.within;
    within = unit_position-within text span.1 h.within;
  }

  captures-within : (captures : List (Option CaptureSpan)) → All (IsCaptureOf text) captures → All (IsCaptureOf units) (map (unit_capture text) captures)
  captures-within [] all = All-nil (IsCaptureOf units)
  captures-within (c ∷ captures) all =
      All-cons (IsCaptureOf units) (unit_capture text c) (map (unit_capture text) captures)
      (capture-within c (All-head (IsCaptureOf text) c captures all)) (captures-within captures (All-tail (IsCaptureOf text) c captures all))

  pub state-within : (s : Steps.MatchState) → IsStateOf text s → IsStateOf units (image s)
  state-within s in' = record { position = unit_position-within text s.position in'.position; captures = captures-within s.captures in'.captures }

  -- ---- results

  -- Both fail, or both are the same state of the text.
  abbrev pub AreSame : (over_units over_text : MatchResult) → Type 0
  AreSame None None = Unit {0}
  AreSame None (Some x) = ⊥
  AreSame (Some y) None = ⊥
  AreSame (Some y) (Some x) = (s : Steps.MatchState) × IsStateOf text s × (x ≡ state_on text s) × (y ≡ state_on units (image s))

  -- The continuations return the same from each state that is reached from s.
  abbrev pub GoOn : Direction → Steps.MatchState → (over_units over_text : Continuation) → Type 0
  GoOn d s c' c = (t : Steps.MatchState) → IsReached text d s t → AreSame (c' (state_on units (image t))) (c (state_on text t))

  -- The matcher returns the same if its continuations do.
  pub record Follows (d : Direction) (m : Matcher) : Type 0 where
    pub same : (s : Steps.MatchState) → IsStateOf text s → (c' c : Continuation) → GoOn d s c' c →
        AreSame (m (state_on units (image s)) c') (m (state_on text s) c)

  pub itself : (d : Direction) (s : Steps.MatchState) → IsStateOf text s → IsReached text d s s
  itself d s in' = record { state = in'; onward = IsOnward-refl d s.position }

  later : (d : Direction) (s t : Steps.MatchState) → IsReached text d s t → (c' c : Continuation) → GoOn d s c' c → GoOn d t c' c
  later d s t reached c' c goes u more = goes u (reached_by_both text d s t u reached more)

  accepted : (d : Direction) (s : Steps.MatchState) → GoOn d s accept accept
  accepted d s t reached = (t, reached.state, refl, refl)

  same_or : (r' r q' q : MatchResult) → AreSame r' r → AreSame q' q →
      AreSame (elim r' [ Some z ↦ Some z | None ↦ q' ]) (elim r [ Some z ↦ Some z | None ↦ q ])
  same_or None None q' q first second = second
  same_or None (Some x) q' q first second = absurd first
  same_or (Some y) None q' q first second = absurd first
  same_or (Some y) (Some x) q' q first second = first

  same_option_or : (r' r q' q : MatchResult) → AreSame r' r → AreSame q' q → AreSame (option_or r' q') (option_or r q)
  same_option_or None None q' q first second = second
  same_option_or None (Some x) q' q first second = absurd first
  same_option_or (Some y) None q' q first second = absurd first
  same_option_or (Some y) (Some x) q' q first second = first

  same_if : (b : Bool) (r' r q' q : MatchResult) → AreSame r' r → AreSame q' q → AreSame (if b then r' else q') (if b then r else q)
  same_if true r' r q' q first second = first
  same_if false r' r q' q first second = second

  same_by : (r' r q' q : MatchResult) → r' ≡ q' → r ≡ q → AreSame q' q → AreSame r' r
  same_by r' r q' q e' e h = subst (λ (a : MatchResult). AreSame a r) (sym e') (subst (λ (b : MatchResult). AreSame q' b) (sym e) h)

  -- ---- parts of a pattern

  first_same : (d : Direction) (s : Steps.MatchState) (c' c : Continuation) → GoOn d s c' c → (states : List Steps.MatchState) →
      All (IsReached text d s) states → AreSame (first_result units c' (map image states)) (first_result text c states)
  first_same d s c' c goes [] all = tt
  first_same d s c' c goes (t ∷ states) all =
      same_option_or _ _ _ _ (goes t (All-head (IsReached text d s) t states all))
      (first_same d s c' c goes states (All-tail (IsReached text d s) t states all))

  -- a matcher with the same outcomes over both
  pub Follows-outcomes : (d : Direction) (f g : Steps.Matcher) (m : Matcher) → Agrees text d f m → Agrees units d g m →
      ((s : Steps.MatchState) → IsStateOf text s → g (image s) ≡ map image (f s)) → Follows d m
  Follows-outcomes d f g m over_text over_units same = record {
    same = λ s in' c' c goes.
        same_by _ _ _ _ (over_units.same (image s) (state-within s in') c' ∙ ap (first_result units c') (same s in')) (over_text.same s in' c)
        (first_same d s c' c goes (f s) (over_text.reached s in'));
  }

  pub Follows-empty : (d : Direction) → Follows d empty_matcher
  Follows-empty d = record { same = λ s in' c' c goes. goes s (itself d s in') }

  pub Follows-or : (d : Direction) (m n : Matcher) → Follows d m → Follows d n → Follows d (match_two_alternatives m n)
  Follows-or d m n first second = record {
    same = λ s in' c' c goes. same_or _ _ _ _ (first.same s in' c' c goes) (second.same s in' c' c goes);
  }

  followed : (d : Direction) (m n : Matcher) → Follows d m → Follows d n → Follows d (λ x c. m x (λ y. n y c))
  followed d m n first second = record {
    same = λ s in' c' c goes.
        first.same s in' (λ y. n y c') (λ y. n y c) (λ t reached. second.same t reached.state c' c (later d s t reached c' c goes));
  }

  pub Follows-sequence : (d : Direction) (m n : Matcher) → Follows d m → Follows d n → Follows d (match_sequence m n d)
  Follows-sequence forwards m n first second = followed forwards m n first second
  Follows-sequence backwards m n first second = followed backwards n m second first

  -- ---- groups

  captures-set : (captures : List (Option CaptureSpan)) (n from to : ℕ) (d : Direction) →
      slice_set (map (unit_capture text) captures) n (Some (range_between d (unit_position text from) (unit_position text to)))
      ≡ map (unit_capture text) (slice_set captures n (Some (range_between d from to)))
  captures-set captures n from to forwards = sym (map-set (unit_capture text) captures n (Some (from, to)))
  captures-set captures n from to backwards = sym (map-set (unit_capture text) captures n (Some (to, from)))

  pub Follows-capture : (d : Direction) (n : ℕ) (m : Matcher) → Follows d m → Follows d (compile_capture n d m)
  Follows-capture d n m inside = record {
    same = λ s in' c' c goes.
        inside.same s in'
        (λ y. c' (record y { captures = slice_set y.captures n (Some (range_between d (unit_position text s.position) y.end_index)) }))
        (λ y. c (record y { captures = slice_set y.captures n (Some (range_between d s.position y.end_index)) }))
        (λ t reached.
        let set_captures : List (Option CaptureSpan) = slice_set t.captures n (Some (range_between d s.position t.position)) in
        let is : set_captures ≡ slice_set t.captures n (Some (min s.position t.position, max s.position t.position)) =
        ap (slice_set t.captures n) (range_same d s.position t.position reached.onward) in
        let to : Steps.MatchState = record t { captures = set_captures } in
        let reached' : IsReached text d s to =
        subst (λ (cs : List (Option CaptureSpan)). IsReached text d s (record t { captures = cs })) (sym is) (captured-reached text d n s t in' reached) in
        same_by _ _ _ _
        (ap (λ (cs : List (Option CaptureSpan)). c' (record (state_on units (image t)) { captures = cs })) (captures-set t.captures n s.position t.position d))
        refl (goes to reached'));
  }

  looked_at : (d : Direction) (s : Steps.MatchState) → IsStateOf text s → (c' c : Continuation) → GoOn d s c' c → (r' r : MatchResult) → AreSame r' r →
      AreSame (elim r' [ None ↦ failure | Some y ↦ c' (record y { end_index = unit_position text s.position }) ])
      (elim r [ None ↦ failure | Some y ↦ c (record y { end_index = s.position }) ])
  looked_at d s in' c' c goes None None same = tt
  looked_at d s in' c' c goes None (Some x) same = absurd same
  looked_at d s in' c' c goes (Some y) None same = absurd same
  looked_at d s in' c' c goes (Some y) (Some x) same =
      let t : Steps.MatchState = same.0 in
      let back : Steps.MatchState = record t { position = s.position } in
      same_by _ _ _ _
      (ap (λ (z : MatchState). c' (record z { end_index = unit_position text s.position })) same.3)
      (ap (λ (z : MatchState). c (record z { end_index = s.position })) same.2)
      (goes back (record { state = record { position = in'.position; captures = same.1.captures }; onward = IsOnward-refl d s.position }))

  unless : (r' r q' q : MatchResult) → AreSame r' r → AreSame q' q →
      AreSame (elim r' [ None ↦ q' | Some y ↦ failure ]) (elim r [ None ↦ q | Some y ↦ failure ])
  unless None None q' q first second = second
  unless None (Some x) q' q first second = absurd first
  unless (Some y) None q' q first second = absurd first
  unless (Some y) (Some x) q' q first second = tt

  pub Follows-look : (d e : Direction) (negate : Bool) (m : Matcher) → Follows e m → Follows d (compile_lookaround negate m)
  Follows-look d e false m inside = record {
    same = λ s in' c' c goes. looked_at d s in' c' c goes _ _ (inside.same s in' accept accept (accepted e s));
  }
  Follows-look d e true m inside = record {
    same = λ s in' c' c goes. unless _ _ _ _ (inside.same s in' accept accept (accepted e s)) (goes s (itself d s in'));
  }

  -- ---- quantifiers

  undefined-same : (k start count : ℕ) (captures : List (Option CaptureSpan)) →
      with_undefined k start count (map (unit_capture text) captures) ≡ map (unit_capture text) (with_undefined k start count captures)
  undefined-same k start count [] = refl
  undefined-same k start count (c ∷ captures) =
      ap₂ (λ (a : Option CaptureSpan) (b : List (Option CaptureSpan)). a ∷ b) (by_test (nat_le (start + 1) k && nat_le k (start + count)))
      (undefined-same (k + 1) start count captures)
    where
      by_test : (b : Bool) → (if b then None else unit_capture text c) ≡ unit_capture text (if b then None else c)
      by_test true = refl
      by_test false = refl

  undefined-within : (k start count : ℕ) (captures : List (Option CaptureSpan)) → All (IsCaptureOf text) captures →
      All (IsCaptureOf text) (with_undefined k start count captures)
  undefined-within k start count [] all = All-nil (IsCaptureOf text)
  undefined-within k start count (c ∷ captures) all =
      All-cons (IsCaptureOf text) _ (with_undefined (k + 1) start count captures)
      (by_test (nat_le (start + 1) k && nat_le k (start + count))) (undefined-within (k + 1) start count captures (All-tail (IsCaptureOf text) c captures all))
    where
      by_test : (b : Bool) → IsCaptureOf text (if b then None else c)
      by_test true = tt
      by_test false = All-head (IsCaptureOf text) c captures all

  module _ (d : Direction) (m : Matcher) (inside : Follows d m) (start count : ℕ) (greedy : Bool) where
    Follows-repeat : (fuel : ℕ) (min' : ℕ) (max' : Option ℕ) → Follows d (λ x c. repeat_matcher fuel m min' max' greedy x c start count)
    unfolding repeat_matcher
    Follows-repeat zero min' max' = record { same = λ s in' c' c goes. tt }
    Follows-repeat (suc fuel) min' max' = record {
      same = λ s in' c' c goes.
          let d' : Continuation = λ y.
          if (min' == 0) && (y.end_index == unit_position text s.position) then failure
          else repeat_matcher fuel m (min' - 1) (one_less max') greedy y c' start count in
          let d0 : Continuation = λ y.
          if (min' == 0) && (y.end_index == s.position) then failure
          else repeat_matcher fuel m (min' - 1) (one_less max') greedy y c start count in
          let begun : Steps.MatchState = record s { captures = with_undefined 1 start count s.captures } in
          let begun_in : IsStateOf text begun = record { position = in'.position; captures = undefined-within 1 start count s.captures in'.captures } in
          let more : AreSame (m (record (state_on units (image s)) { captures = with_undefined 1 start count (map (unit_capture text) s.captures) }) d') (m (state_on text begun) d0) =
          same_by _ _ _ _
          (ap (λ (cs : List (Option CaptureSpan)). m (record (state_on units (image s)) { captures = cs }) d') (undefined-same 1 start count s.captures)) refl
          (inside.same begun begun_in d' d0
          (λ t reached.
          let from_s : IsReached text d s t = record { state = reached.state; onward = reached.onward } in
          subst
          (λ (b : Bool).
          AreSame (if (min' == 0) && b then failure else repeat_matcher fuel m (min' - 1) (one_less max') greedy (state_on units (image t)) c' start count)
          (d0 (state_on text t)))
          (sym (unit_position-eq text t.position s.position reached.state.position in'.position))
          (same_if ((min' == 0) && (t.position == s.position)) _ _ _ _ tt
          ((Follows-repeat fuel (min' - 1) (one_less max')).same t reached.state c' c (later d s t from_s c' c goes))))) in
          let ended : AreSame (c' (state_on units (image s))) (c (state_on text s)) = goes s (itself d s in') in
          same_if (is_none_allowed max') _ _ _ _ ended
          (same_if (not (min' == 0)) _ _ _ _ more
          (same_if greedy _ _ _ _ (same_or _ _ _ _ more ended) (same_or _ _ _ _ ended more)));
    }

  pub Follows-quantified : (d : Direction) (m : Matcher) → Follows d m → (fuel start count : ℕ) (q : Option Quantifier) →
      Follows d (quantified fuel start count q m)
  Follows-quantified d m inside fuel start count None = inside
  Follows-quantified d m inside fuel start count (Some q) = Follows-repeat d m inside start count q.greedy (q.min + fuel) q.min q.max
