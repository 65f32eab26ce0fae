-- A number that decreases with every change by a rewrite, so passes over a tree terminate.
use Rattle.std.proofs.Common.{◌≡◌, ℕ, ◌+◌, ◌*◌, ◌<◌, ◌≤◌, ◌⊎◌, [], inl, inr, ap, arith}
use Rattle.std.proofs.Math.Nat.{mul-le-mul_left}
use Rattle.regress_tree.specs.Tree.{Leaf, byte_sequence, bracket, Wrapper, capture_group, loop, loop_one, lookaround, Tree}
use Rattle.regress_base.proofs.lemmas.Sets.{canonical_length}
use Rattle.regress_tree.specs.WellFormed.{Position, LeafIsAllowed, IsAllowed}
use Rattle.regress_tree.specs.Units.{units_of_leaf, sizes, units, loops, account, weight_of_leaf, weight_of_wrapper, weights, weight, IsLess}
use Rattle.regress_tree.proofs.lemmas.Measures.{total-le}

-- The greatest weight of one unit: a bracket has at most half as many intervals as there are code points.
abbrev heaviest : ℕ
heaviest = 557061

leaf_weight-le : (n : ℕ) (l : Leaf) (p : Position) → LeafIsAllowed n l p → weight_of_leaf l ≤ heaviest * units_of_leaf l
leaf_weight-le n (bracket invert intervals) p m = omega (arith, canonical_length intervals m.canonical)
leaf_weight-le n (byte_sequence []) p m = omega arith
leaf_weight-le n l p m = omega arith

wrapper_weight-le : (w : Wrapper) → weight_of_wrapper w ≤ heaviest * 1
wrapper_weight-le (capture_group id name) = omega arith
wrapper_weight-le (loop quantifier start end) = omega arith
wrapper_weight-le (loop_one quantifier) = omega arith
wrapper_weight-le (lookaround negate backwards start end) = omega arith

-- The weight of an allowed tree is at most that for each of its units.
weight-le : (n : ℕ) (t : Tree) (p : Position) → IsAllowed n t p → weight t ≤ heaviest * units t
weight-le = total-le heaviest weights sizes (record {
  of_leaf = leaf_weight-le;
  of_cat = omega arith;
  of_alt = omega arith;
  of_wrapper = wrapper_weight-le;
})

-- An upper bound for the number of remaining changes, where `spent` is the account of the original tree: one loop fewer
-- outweighs any weight that the tree can then have.
abbrev pub changes_left : ℕ → Tree → ℕ
changes_left spent t = (heaviest * spent + 1) * loops t + weight t

pub changes_left-falls : (spent : ℕ) (t u : Tree) (n : ℕ) (p : Position) → IsAllowed n u p → account t ≤ spent → account u ≤ account t → IsLess u t →
    changes_left spent u < changes_left spent t
changes_left-falls spent t u n p part within no_more is_less = by is_less.less
  where
    by : (loops u < loops t) ⊎ ((loops u ≡ loops t) × (weight u < weight t)) → changes_left spent u < changes_left spent t
    by (inl fewer) =
        let loop : loops u + 1 ≤ loops t = omega (arith, fewer) in
        omega (arith, mul-le-mul_left (heaviest * spent + 1) loop, weight-le n u p part, within, no_more)
    by (inr lighter) = omega (arith, ap (λ k. (heaviest * spent + 1) * k) lighter.0, lighter.1)

-- `IsLess` is transitive.
pub IsLess-trans : (t u v : Tree) → IsLess u t → IsLess v u → IsLess v t
IsLess-trans t u v a b = record { less = by a.less b.less }
  where
    by : (loops u < loops t) ⊎ ((loops u ≡ loops t) × (weight u < weight t)) →
        (loops v < loops u) ⊎ ((loops v ≡ loops u) × (weight v < weight u)) →
        (loops v < loops t) ⊎ ((loops v ≡ loops t) × (weight v < weight t))
    by (inl first) (inl second) = inl (omega arith)
    by (inl first) (inr second) = inl (omega (arith, second.0))
    by (inr first) (inl second) = inl (omega (arith, first.0))
    by (inr first) (inr second) = inr (omega (arith, first.0, second.0), omega (arith, first.1, second.1))
