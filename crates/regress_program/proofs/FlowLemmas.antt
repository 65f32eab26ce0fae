-- Outcomes of instructions, one after another, as outcomes of matchers.
use Rattle.std.proofs.Common.{◌≡◌, ℕ, ◌≤◌, inl, inr, ◌==◌, Bool, true, false, not, ◌||◌, List, [], ◌∷◌, ◌++◌, length, flat_map, All, refl, sym, ap, ap₂, subst, ◌∙◌, append-nil, arith}
use Rattle.std.proofs.lemmas.Bool.{eq-eqb, ne_eqb, cases_eq}
use Rattle.std.proofs.lemmas.List.Concat.{flat_map-append}
use Rattle.std.proofs.lemmas.List.Elements.{All-head, All-tail}
use Rattle.std.proofs.lemmas.List.Folds.{flat_map-map}
use Rattle.regress_tree.specs.Reading.{Direction, forwards, backwards}
use Rattle.regress_tree.specs.Repetition.{iteration, unset}
use Rattle.regress_tree.specs.Steps.{MatchState, Matcher, stay, ◌then_◌, ◌or_◌, capture, captured}
use Rattle.regress_tree.proofs.lemmas.Outcomes.{flat_map-then}
use Rattle.regress_program.specs.Compiled.{Goes}
use Rattle.regress_program.specs.Program.{At, Out, goto, reach, ended}
use Rattle.regress_program.specs.Stays.{IsOnward, IsReached, Stays}

-- ---- the flag

or-true : (m : Bool) → (m || true) ≡ true
or-true true = refl
or-true false = refl

or-false : (m : Bool) → (m || false) ≡ m
or-false true = refl
or-false false = refl

flag-stays : (m : Bool) (k : ℕ) → (m || not (k == k)) ≡ m
flag-stays m k = ap (λ b. m || not b) (eq-eqb k k refl) ∙ or-false m

pub flag-moves : (m : Bool) (t k : ℕ) → (t ≡ k → ⊥) → (m || not (t == k)) ≡ true
flag-moves m t k ne = ap (λ b. m || not b) (ne_eqb t k ne) ∙ or-true m

pub onward-moves : (d : Direction) (i j k : ℕ) → IsOnward d i j → IsOnward d j k → (j ≡ i → ⊥) → k ≡ i → ⊥
onward-moves forwards i j k a b ne e = ne (omega (arith, a, b, e))
onward-moves backwards i j k a b ne e = ne (omega (arith, a, b, e))

flag-joins : (d : Direction) (m : Bool) (i j k : ℕ) → IsOnward d i j → IsOnward d j k →
    ((m || not (j == i)) || not (k == j)) ≡ (m || not (k == i))
flag-joins d m i j k a b =
    elim (cases_eq j i) [
      | inl same ↦ subst (λ n. ((m || not (n == i)) || not (k == n)) ≡ (m || not (k == i))) (sym same) (ap (λ c. c || not (k == i)) (flag-stays m i))
      | inr ne ↦ ap (λ c. c || not (k == j)) (flag-moves m j i ne) ∙ sym (flag-moves m k i (onward-moves d i j k a b ne))
    ]

pub flat_map-agree : (P : MatchState → Type 0) (f g : Matcher) → ((s : MatchState) → P s → f s ≡ g s) → (states : List MatchState) → All P states →
    flat_map f states ≡ flat_map g states
flat_map-agree P f g agree [] all = refl
flat_map-agree P f g agree (s ∷ states) all =
    ap₂ ◌++◌ (agree s (All-head P s states all)) (flat_map-agree P f g agree states (All-tail P s states all))

-- ---- one after another

module _ (out : Out) where
  -- at the same state nothing has moved
  pub reach-same : (next : ℕ) (a : At) → out (reach next a a.state) ≡ out (goto next a)
  reach-same next a = ap (λ m. out (record a { pc = next; moved = m })) (flag-stays a.moved a.state.position)

module _ (bytes : List ℕ) (d : Direction) (out : Out) where
  pub Goes-stay : (next : ℕ) → Goes bytes out next next stay
  Goes-stay next = record { goes = λ a le. sym (append-nil _ ∙ reach-same out next a) }

  -- a matcher with the same outcomes inside the text
  pub Goes-same : (next entry : ℕ) (f g : Matcher) → ((s : MatchState) → s.position ≤ length bytes → f s ≡ g s) →
      Goes bytes out next entry f → Goes bytes out next entry g
  Goes-same next entry f g same is =
      record { goes = λ a le. is.goes a le ∙ ap (flat_map (λ to. out (reach next a to))) (same a.state le) }

  pub Goes-then : (next middle entry : ℕ) (f g : Matcher) → Stays bytes d f → Stays bytes d g →
      Goes bytes out middle entry f → Goes bytes out next middle g → Goes bytes out next entry (f then_ g)
  Goes-then next middle entry f g stays stays' first second = record {
    goes = λ a le.
        let s = a.state in
        let H : Matcher = λ to. out (reach next a to) in
        first.goes a le
        ∙ flat_map-agree (IsReached bytes d s) (λ to. out (reach middle a to)) (g then_ H)
        (λ to r.
        second.goes (reach middle a to) r.inside
        ∙ flat_map-agree (IsReached bytes d to) (λ u. out (reach next (reach middle a to) u)) H
        (λ u r'.
        ap (λ m. out (record { pc = next; moved = m; state = u; begins = a.begins }))
        (flag-joins d a.moved s.position to.position u.position r.onward r'.onward))
        (g to) (stays'.reached to r.inside))
        (f s) (stays.reached s le)
        ∙ flat_map-then g H (f s);
  }

  pub Goes-or : (next entry first second : ℕ) (f g : Matcher) → ((a : At) → a.state.position ≤ length bytes →
      out (goto entry a) ≡ out (goto first a) ++ out (goto second a)) →
      Goes bytes out next first f → Goes bytes out next second g → Goes bytes out next entry (f or_ g)
  Goes-or next entry first second f g splits is is' = record {
    goes = λ a le.
        splits a le ∙ ap₂ ◌++◌ (is.goes a le) (is'.goes a le)
        ∙ sym (flat_map-append (λ to. out (reach next a to)) (f a.state) (g a.state));
  }

  pub Goes-iteration : (next entry body start end : ℕ) (f : Matcher) → ((a : At) → a.state.position ≤ length bytes →
      out (goto entry a) ≡ out (record a { pc = body; state = unset start end a.state })) →
      Goes bytes out next body f → Goes bytes out next entry (iteration start end f)
  Goes-iteration next entry body start end f unsets is =
      record { goes = λ a le. unsets a le ∙ is.goes (record a { state = unset start end a.state }) le }

  -- the contents of a group, between its beginning and its end
  pub Goes-capture : (next entry contents ends id : ℕ) (f : Matcher) → Stays bytes d f → ((a : At) → a.state.position ≤ length bytes →
      out (goto entry a) ≡ out (record a { pc = contents; begins = a.state.position ∷ a.begins })) →
      ((a : At) → a.state.position ≤ length bytes → out (goto ends a) ≡ out (ended id next a a.begins)) →
      Goes bytes out ends contents f → Goes bytes out next entry (capture id f)
  unfolding capture
  Goes-capture next entry contents ends id f stays begin end is = record {
    goes = λ a le.
        let s = a.state in
        let inside : At = record a { begins = s.position ∷ a.begins } in
        begin a le ∙ is.goes inside le
        ∙ flat_map-agree (IsReached bytes d s) (λ to. out (reach ends inside to)) (λ to. out (reach next a (captured id s.position to)))
        (λ to r. end (reach ends inside to) r.inside) (f s) (stays.reached s le)
        ∙ sym (flat_map-map (λ to. out (reach next a to)) (captured id s.position) (f s));
  }
