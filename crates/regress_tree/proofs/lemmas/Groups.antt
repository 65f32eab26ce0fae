-- Trees without a capture group: ranges of group ids around them are empty, and resetting their groups changes no
-- state.
use Rattle.std.proofs.Common.{◌≡◌, ℕ, ◌+◌, ◌≤◌, ◌==◌, Bool, false, ◌&&◌, cond, nat_le, nat_lt, inl, inr, List, [], ◌∷◌, ◌++◌, count_by, Option, refl, ap, ap₂, ◌∙◌, le_refl, arith}
use Rattle.std.proofs.lemmas.Bool.{true≢false, cases_lt, and_left, and_right, and_from, or_parts, le-leb, lt-leb, lt-ltb, le-ltb, eq-eqb, cond-false}
use Rattle.std.proofs.lemmas.List.Sums.{sum_by-cons}
use mathlib.Core.Path.{fun_ext}
use Rattle.regress_tree.specs.Copies.{HasNoGroup, NoneHasGroup}
use Rattle.regress_tree.specs.Repetition.{unset_from, unset, iteration}
use Rattle.regress_tree.specs.Shapes.{is_group, on_wrapper, has_group, some_node_in_list}
use Rattle.regress_tree.specs.Steps.{CaptureSpan, MatchState, Matcher}
use Rattle.regress_tree.specs.Tree.{Wrapper, capture_group, loop, loop_one, lookaround, Tree, Trees, leaf, cat, alt, wrapped, no_trees, more_trees}
use Rattle.regress_tree.specs.WellFormed.{Capture, captures, captures_of_trees, captures_of_wrapper, Position, inside, last_of, position_in, IsAllowed, PartsAllowed, HasGroups}

-- No number is in a range that ends where it starts, or before.
none_within : (start end k : ℕ) → end ≤ start → (nat_le start k && nat_lt k end) ≡ false
none_within start end k ends = elim (cases_lt k start) [
  | inl before ↦ and_left (nat_le start k) (nat_lt k end) (lt-leb start k before)
  | inr from ↦ and_right (nat_le start k) (nat_lt k end) (le-ltb k end (omega arith))
]

-- ---- a tree without a group has an empty range

pub HasGroups-none : (start end : ℕ) (t : Tree) → HasGroups start end t → captures t ≡ [] → end ≤ start
HasGroups-none start end t has none = elim (cases_lt start end) [
  | inl some ↦
      let here = and_from (nat_le start start) (nat_lt start end) (le-leb start start (le_refl start)) (lt-ltb start end some) in
      let one = ap (λ (b : Bool). cond {A = ℕ} b 1 0) here in
      let count = ap (count_by (λ c. c.id == start)) none in
      absurd (omega (arith, one, count, has start))
  | inr empty ↦ empty
]

-- A tree with an empty range has no group.
pub captures-none : (start end : ℕ) (t : Tree) → HasGroups start end t → end ≤ start → captures t ≡ []
captures-none start end t has ends = by (captures t) (λ k. has k ∙ ap (λ (b : Bool). cond {A = ℕ} b 1 0) (none_within start end k ends))
  where
    by : (cs : List Capture) → ((k : ℕ) → count_by (λ c. c.id == k) cs ≡ 0) → cs ≡ []
    by [] counts = refl
    by (c ∷ cs) counts =
        let one = ap (λ (b : Bool). cond {A = ℕ} b 1 0) (eq-eqb c.id c.id refl) in
        let split = sum_by-cons (λ (d : Capture). cond {A = ℕ} (d.id == c.id) 1 0) c cs in
        absurd (omega (arith, one, split, counts c.id))

-- ---- trees without a group inside

no_group : (w : Wrapper) → is_group w ≡ false → captures_of_wrapper w ≡ []
no_group (capture_group id name) none = absurd (true≢false none)
no_group (loop quantifier start end) none = refl
no_group (loop_one quantifier) none = refl
no_group (lookaround negate backwards start end) none = refl

mutual
  pub captures-free : (t : Tree) → has_group t ≡ false → captures t ≡ []
  captures-free (leaf l) none = refl
  captures-free (cat parts) none = captures_of_trees-free parts none
  captures-free (alt left right) none =
      let sides = or_parts (has_group left) (has_group right) none in
      ap₂ ◌++◌ (captures-free left sides.0) (captures-free right sides.1)
  captures-free (wrapped w body) none =
      let both = or_parts (is_group w) (has_group body) none in
      ap₂ ◌++◌ (no_group w both.0) (captures-free body both.1)

  captures_of_trees-free : (ts : Trees) → some_node_in_list (on_wrapper is_group) ts ≡ false → captures_of_trees ts ≡ []
  captures_of_trees-free no_trees none = refl
  captures_of_trees-free (more_trees t ts) none =
      let both = or_parts (has_group t) (some_node_in_list (on_wrapper is_group) ts) none in
      ap₂ ◌++◌ (captures-free t both.0) (captures_of_trees-free ts both.1)

-- ---- a tree without a group has empty group ranges inside

append_none : {X : Type 0} (xs ys : List X) → xs ++ ys ≡ [] → (xs ≡ []) × (ys ≡ [])
append_none [] ys none = (refl, none)
append_none (x ∷ xs) ys none = absurd (cc)

mutual
  pub HasNoGroup-from : (n : ℕ) (t : Tree) (p : Position) → IsAllowed n t p → captures t ≡ [] → HasNoGroup t
  HasNoGroup-from n (leaf l) p m none = tt
  HasNoGroup-from n (cat parts) p m none = NoneHasGroup-from n parts (last_of p) m.1 none
  HasNoGroup-from n (alt left right) p m none =
      let sides = append_none (captures left) (captures right) none in
      (HasNoGroup-from n left inside m.1 sides.0, HasNoGroup-from n right inside m.2 sides.1)
  HasNoGroup-from n (wrapped (capture_group id name) body) p m none = absurd (cc)
  HasNoGroup-from n (wrapped (loop q start end) body) p m none =
      (HasGroups-none start end body m.1.1 none, HasNoGroup-from n body inside m.2 none)
  HasNoGroup-from n (wrapped (loop_one q) body) p m none = (tt, HasNoGroup-from n body (position_in (loop_one q)) m.2 none)
  HasNoGroup-from n (wrapped (lookaround negate backwards start end) body) p m none =
      (HasGroups-none start end body m.1 none, HasNoGroup-from n body inside m.2 none)

  NoneHasGroup-from : (n : ℕ) (ts : Trees) (p : Position) → PartsAllowed n ts p → captures_of_trees ts ≡ [] → NoneHasGroup ts
  NoneHasGroup-from n no_trees p m none = tt
  NoneHasGroup-from n (more_trees t no_trees) p m none =
      (HasNoGroup-from n t p m (append_none (captures t) [] none).0, tt)
  NoneHasGroup-from n (more_trees t (more_trees u us)) p m none =
      let both = append_none (captures t) (captures_of_trees (more_trees u us)) none in
      (HasNoGroup-from n t inside m.0 both.0, NoneHasGroup-from n (more_trees u us) p m.1 both.1)

-- ---- resetting an empty range

module _ (start end : ℕ) (ends : end ≤ start) where
  unset_from-none : (k : ℕ) (cs : List (Option CaptureSpan)) → unset_from k start end cs ≡ cs
  unset_from-none k [] = refl
  unset_from-none k (c ∷ cs) = ap₂ ◌∷◌ (cond-false _ _ _ (none_within start end k ends)) (unset_from-none (k + 1) cs)

  pub unset-none : (s : MatchState) → unset start end s ≡ s
  unset-none s = ap (λ (cs : List (Option CaptureSpan)). record s { captures = cs }) (unset_from-none 0 s.captures)

  pub iteration-none : (f : Matcher) → iteration start end f ≡ f
  iteration-none f = fun_ext (λ s. ap f (unset-none s))
