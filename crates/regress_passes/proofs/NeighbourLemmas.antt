-- Joining all neighbours of a list of trees, from one end to the other.
use Rattle.std.proofs.Common.{◌≡◌, ℕ, zero, suc, ◌+◌, ◌-◌, ◌<◌, ◌≤◌, Bool, true, false, ◌&&◌, ◌||◌, List, [], ◌∷◌, map, length, drop, refl, sym, ap, ap₂, ◌∙◌, subst, arith}
use Rattle.std.proofs.Math.Bool.{and-false, or-false}
use Rattle.std.proofs.lemmas.Bool.{false≢true, or_right, and_from, and_parts}
use Rattle.std.proofs.lemmas.List.{length-map}
use Rattle.regress_tree.specs.declared.ir.node.Node.{Node}
use Rattle.regress_tree.specs.Reading.{forwards, backwards}
use Rattle.regress_tree.specs.Shapes.{has_bytes, has_neighbours}
use Rattle.regress_tree.specs.Tree.{Tree, list, tree}
use Rattle.regress_passes.specs.Joined.{part_at, HaveBytes, joined_at, JoinsSome, JoinsBytes}
use Rattle.regress_passes.proofs.PartLemmas.{HasGap, HasGap-none, join_gap, join_more, join_first}

-- whether there are neighbours with bytes from an index on
abbrev has_more : ℕ → List Tree → Bool
has_more i ts = has_neighbours has_bytes (list (drop i ts))

abbrev both : ℕ → List Tree → Bool
both i ts = has_bytes (part_at i ts) && has_bytes (part_at (suc i) ts)

has_more-next : (ts : List Tree) (i : ℕ) → suc i < length ts → has_more i ts ≡ (both i ts || has_more (suc i) ts)
has_more-next [] i within = absurd (omega (arith, within))
has_more-next (t ∷ []) zero within = absurd (omega (arith, within))
has_more-next (t ∷ u ∷ ts) zero within = refl
has_more-next (t ∷ ts) (suc i) within = has_more-next ts i (omega (arith, within))

has_more-all : (ts : List Tree) (i : ℕ) → has_more i ts ≡ true → has_more 0 ts ≡ true
has_more-all ts zero some = some
has_more-all [] (suc i) some = absurd (false≢true some)
has_more-all (t ∷ ts) (suc i) some = or_right _ _ (has_more-all ts i some)

has_more-none : (ts : List Tree) (i : ℕ) → length ts ≤ suc i → has_more i ts ≡ false
has_more-none [] zero end = refl
has_more-none [] (suc i) end = refl
has_more-none (t ∷ []) zero end = or-false _ ∙ and-false (has_bytes t)
has_more-none (t ∷ u ∷ ts) zero end = absurd (omega (arith, end))
has_more-none (t ∷ ts) (suc i) end = has_more-none ts i (omega (arith, end))

have_both : (i k : ℕ) (ts : List Tree) → HaveBytes i k ts → k ≡ suc i → has_more i ts ≡ true
have_both i k ts have next =
    let here : both i ts ≡ true = and_from _ _ have.first (subst (λ j. has_bytes (part_at j ts) ≡ true) next have.second) in
    has_more-next ts i (omega (arith, have.within, next)) ∙ ap (λ b. b || has_more (suc i) ts) here

-- Forwards: the list when the next pair ends at `i`, by whether any were joined.

abbrev pub ForwardSoFar : Bool → ℕ → (old now : List Tree) → Type 0
ForwardSoFar true i old now = JoinsSome forwards (list old) (list now)
ForwardSoFar false i old now = (now ≡ old) × (has_more (i - 1) old ≡ has_more 0 old)

module _ (i : ℕ) (old now : List Tree) where
  pub forward_skip : (joined : Bool) → 1 ≤ i → i < length now → (has_bytes (part_at (i - 1) now) && has_bytes (part_at i now)) ≡ false →
      ForwardSoFar joined i old now → ForwardSoFar joined (i + 1) old now
  forward_skip true low within not_both so_far = so_far
  forward_skip false low within not_both so_far =
      let back : suc (i - 1) ≡ i = omega (arith, low) in
      let on : i + 1 - 1 ≡ suc (i - 1) = omega (arith, low) in
      let here : both (i - 1) old ≡ false =
      subst (λ ts. both (i - 1) ts ≡ false) so_far.0
      (subst (λ k. (has_bytes (part_at (i - 1) now) && has_bytes (part_at k now)) ≡ false) (sym back) not_both) in
      let inside : suc (i - 1) < length old = omega (arith, within, back, ap length so_far.0) in (
        so_far.0,
        ap (λ k. has_more k old) on
            ∙ sym (has_more-next old (i - 1) inside ∙ ap (λ b. b || has_more (suc (i - 1)) old) here)
            ∙ so_far.1,
      )

  pub forward_join : (joined : Bool) → 1 ≤ i → HaveBytes (i - 1) i now → ForwardSoFar joined i old now →
      JoinsSome forwards (list old) (list (joined_at forwards (i - 1) i now))
  forward_join joined low have so_far =
      let back : i ≡ suc (i - 1) = omega (arith, low) in
      by_cases joined so_far back (subst (λ k. HasGap k i now) back (HasGap-none i now))
    where
      by_cases : (joined : Bool) → ForwardSoFar joined i old now → i ≡ suc (i - 1) → HasGap (suc (i - 1)) i now →
          JoinsSome forwards (list old) (list (joined_at forwards (i - 1) i now))
      by_cases true so_far back gap = join_more now (i - 1) i have gap forwards (list old) so_far
      by_cases false so_far back gap =
          let found = ap (λ ts. has_more (i - 1) ts) (sym so_far.0) in
          subst (λ ts. JoinsSome forwards (list ts) (list (joined_at forwards (i - 1) i now))) so_far.0
          (join_first now (i - 1) i have gap forwards
          (ap (has_more 0) so_far.0 ∙ sym so_far.1 ∙ found ∙ have_both (i - 1) i now have back))

  pub forward_end : (joined : Bool) → 1 ≤ i → length now ≤ i → ForwardSoFar joined i old now → JoinsBytes forwards joined (list old) (list now)
  forward_end true low end so_far = so_far
  forward_end false low end so_far =
      (ap list so_far.0, sym so_far.1 ∙ has_more-none old (i - 1) (omega (arith, low, end, ap length so_far.0)))

-- Backwards: the list from the part `i` on, where the part `last` has the bytes of those before it.

abbrev pub BackwardSoFar : Bool → (i last : ℕ) → (old now : List Tree) → Type 0
BackwardSoFar true i last old now = JoinsSome backwards (list old) (list now)
BackwardSoFar false i last old now = (now ≡ old) × (last ≡ i) × (has_more i old ≡ false)

pub backward_start : (ts : List Tree) (i : ℕ) → length ts ≤ suc i → BackwardSoFar false i i ts ts
backward_start ts i end = (refl, refl, has_more-none ts i end)

module _ (i last : ℕ) (old now : List Tree) (some : 1 ≤ i) where
  before : suc (i - 1) ≡ i
  before = omega (arith, some)

  gap_before : HasGap i last now → HasGap (suc (i - 1)) last now
  gap_before gap = subst (λ k. HasGap k last now) (sym before) gap

  pub backward_skip : (joined : Bool) → i ≤ last → last < length now →
      (has_bytes (part_at (i - 1) now) && has_bytes (part_at last now)) ≡ false →
      BackwardSoFar joined i last old now → BackwardSoFar joined (i - 1) (i - 1) old now
  backward_skip true ordered within not_both so_far = so_far
  backward_skip false ordered within not_both so_far =
      let here : both (i - 1) old ≡ false =
      subst (λ ts. both (i - 1) ts ≡ false) so_far.0
      (subst (λ k. (has_bytes (part_at (i - 1) now) && has_bytes (part_at k now)) ≡ false) (so_far.1 ∙ sym before) not_both) in
      let inside : suc (i - 1) < length old = omega (arith, within, ordered, before, ap length so_far.0) in
      let rest : has_more (suc (i - 1)) old ≡ false = ap (λ k. has_more k old) before ∙ so_far.2 in
      (so_far.0, refl, has_more-next old (i - 1) inside ∙ ap₂ ◌||◌ here rest)

  pub backward_join : (joined : Bool) → HaveBytes (i - 1) last now → HasGap i last now → BackwardSoFar joined i last old now →
      JoinsSome backwards (list old) (list (joined_at backwards (i - 1) last now))
  backward_join joined have gap so_far = by_cases joined so_far (gap_before gap)
    where
      by_cases : (joined : Bool) → BackwardSoFar joined i last old now → HasGap (suc (i - 1)) last now →
          JoinsSome backwards (list old) (list (joined_at backwards (i - 1) last now))
      by_cases true so_far gap = join_more now (i - 1) last have gap backwards (list old) so_far
      by_cases false so_far gap =
          subst (λ ts. JoinsSome backwards (list ts) (list (joined_at backwards (i - 1) last now))) so_far.0
          (join_first now (i - 1) last have gap backwards
          (has_more-all now (i - 1) (have_both (i - 1) last now have (so_far.1 ∙ sym before))))

  pub backward_gap : HaveBytes (i - 1) last now → HasGap i last now → HasGap (i - 1) last (joined_at backwards (i - 1) last now)
  backward_gap have gap = join_gap now (i - 1) last have (gap_before gap) backwards

-- What the tests on nodes imply for the list of their trees.

pub have_bytes : (nodes : List Node) (i k : ℕ) → i < k → k < length nodes →
    (has_bytes (part_at i (map tree nodes)) && has_bytes (part_at k (map tree nodes))) ≡ true → HaveBytes i k (map tree nodes)
have_bytes nodes i k ordered within has =
    let parts = and_parts _ _ has in
    record { ordered = ordered; within = omega (arith, within, length-map nodes tree); first = parts.0; second = parts.1 }
