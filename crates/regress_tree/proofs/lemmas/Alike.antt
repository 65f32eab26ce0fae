-- `Alike` is an equivalence, and a congruence for each operation on matchers.
use Rattle.std.proofs.Common.{◌≡◌, ◌==◌, ℕ, zero, suc, Bool, true, false, not, List, [], ◌∷◌, filter, refl, sym, ap, ◌∙◌}
use Rattle.regress_tree.specs.Steps.{MatchState, Matcher, Alike, dedup, stay, ◌then_◌, ◌or_◌, capture, captured}
use Rattle.regress_tree.specs.Lookaround.{looked, lookaround_matcher}
use Rattle.regress_tree.specs.Repetition.{unset, iteration, iterations, moving, up_to, extra_iterations, repeat_matcher}
use Rattle.regress_base.specs.declared.types.Quantifier.{Quantifier}
use Rattle.regress_tree.proofs.lemmas.Distinct.{distinct-append-alike, distinct-filter, distinct-flat_map-alike, distinct-map-alike}

pub Alike-refl : (f : Matcher) → Alike f f
Alike-refl f = record { same = λ s. refl }

pub Alike-trans : {f g h : Matcher} → Alike f g → Alike g h → Alike f h
Alike-trans a b = record { same = λ s. a.same s ∙ b.same s }

-- Matchers with the same outcomes are alike.
pub Alike-from_same : {f g : Matcher} → ((s : MatchState) → f s ≡ g s) → Alike f g
Alike-from_same same = record { same = λ s. ap dedup (same s) }

pub Alike-then : (f f' g g' : Matcher) → Alike f f' → Alike g g' → Alike (f then_ g) (f' then_ g')
Alike-then f f' g g' a b = record { same = λ s. distinct-flat_map-alike g g' (f s) (f' s) b.same (a.same s) }

pub Alike-or : (f f' g g' : Matcher) → Alike f f' → Alike g g' → Alike (f or_ g) (f' or_ g')
Alike-or f f' g g' a b = record { same = λ s. distinct-append-alike (f s) (f' s) (g s) (g' s) (a.same s) (b.same s) }

pub Alike-capture : (id : ℕ) (f f' : Matcher) → Alike f f' → Alike (capture id f) (capture id f')
unfolding capture
Alike-capture id f f' a = record { same = λ s. distinct-map-alike (captured id s.position) (f s) (f' s) (a.same s) }

-- ---- lookarounds

-- A lookaround depends only on the first outcome.
looked-distinct : (negate : Bool) (s : MatchState) (states : List MatchState) → looked negate s (dedup states) ≡ looked negate s states
looked-distinct false s [] = refl
looked-distinct false s (t ∷ states) = refl
looked-distinct true s [] = refl
looked-distinct true s (t ∷ states) = refl

pub Alike-look : (negate : Bool) (f f' : Matcher) → Alike f f' → Alike (lookaround_matcher negate f) (lookaround_matcher negate f')
unfolding lookaround_matcher
Alike-look negate f f' a = Alike-from_same (λ s.
    sym (looked-distinct negate s (f s)) ∙ ap (looked negate s) (a.same s) ∙ looked-distinct negate s (f' s))

-- ---- repetition

Alike-iteration : (start end : ℕ) (f f' : Matcher) → Alike f f' → Alike (iteration start end f) (iteration start end f')
Alike-iteration start end f f' a = record { same = λ s. a.same (unset start end s) }

Alike-iterations : (n : ℕ) (f f' : Matcher) → Alike f f' → Alike (iterations n f) (iterations n f')
Alike-iterations zero f f' a = Alike-refl stay
Alike-iterations (suc n) f f' a = Alike-then f f' (iterations n f) (iterations n f') a (Alike-iterations n f f' a)

Alike-moving : (f f' : Matcher) → Alike f f' → Alike (moving f) (moving f')
Alike-moving f f' a = record {
  same = λ s.
      let moves : MatchState → Bool = λ t. not (t.position == s.position) in
      distinct-filter moves (f s) ∙ ap (filter moves) (a.same s) ∙ sym (distinct-filter moves (f' s));
}

Alike-up_to : (greedy : Bool) (n : ℕ) (f f' : Matcher) → Alike f f' → Alike (up_to greedy n f) (up_to greedy n f')
Alike-up_to greedy zero f f' a = Alike-refl stay
Alike-up_to true (suc n) f f' a =
    Alike-or _ _ stay stay (Alike-then _ _ _ _ (Alike-moving f f' a) (Alike-up_to true n f f' a)) (Alike-refl stay)
Alike-up_to false (suc n) f f' a =
    Alike-or stay stay _ _ (Alike-refl stay) (Alike-then _ _ _ _ (Alike-moving f f' a) (Alike-up_to false n f f' a))

pub Alike-repeat : (bound : ℕ) (q : Quantifier) (start end : ℕ) (f f' : Matcher) → Alike f f' →
    Alike (repeat_matcher bound q start end f) (repeat_matcher bound q start end f')
unfolding repeat_matcher
Alike-repeat bound q start end f f' a =
    let alike = Alike-iteration start end f f' a in
    Alike-then _ _ _ _ (Alike-iterations q.min _ _ alike) (Alike-up_to q.greedy (extra_iterations bound q) _ _ alike)
