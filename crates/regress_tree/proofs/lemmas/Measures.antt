-- Lemmas about sums over a tree and tests on its nodes, for any measure and any test.
use Rattle.std.proofs.Common.{◌≡◌, ℕ, zero, suc, ◌+◌, ◌*◌, ◌≤◌, ◌<◌, inl, inr, Bool, false, ◌||◌, [], refl, sym, ap, ap₂, ◌∙◌, max, arith}
use Rattle.std.proofs.Math.Bool.{or_assoc, or-false}
use Rattle.std.proofs.Math.Nat.{mul-add}
use Rattle.std.proofs.lemmas.Bool.{false≢true, or_parts, cases_lt}
use Rattle.regress_tree.specs.Tree.{Leaf, char, byte_sequence, Wrapper, capture_group, loop, loop_one, lookaround, Tree, Trees, leaf, cat, alt, wrapped, no_trees, more_trees, append_trees, copies}
use Rattle.regress_tree.specs.WellFormed.{Position, inside, last_of, position_in, LeafIsAllowed, IsAllowed, PartsAllowed}
use Rattle.regress_tree.specs.Measures.{Measure, total, total_in_list, nesting_of_deepest}
use Rattle.regress_tree.specs.Units.{charge_of_leaf, charges, charge, units_of_leaf, sizes, units, unrollables, weight_of_leaf, weight_of_wrapper, weights, weight, loops, IsLess}
use Rattle.regress_tree.specs.Shapes.{on_wrapper, some_node, some_node_in_list, some_node_inside, LacksShape, ListLacksShape, LacksInside, some_part, is_loop, has_loop}

-- ---- sums

module _ (m : Measure) where
  pub total-append : (ts us : Trees) → total_in_list m (append_trees ts us) ≡ total_in_list m ts + total_in_list m us
  total-append no_trees us = omega arith
  total-append (more_trees t ts) us = omega (arith, total-append ts us)

  pub total-copies : (n : ℕ) (t : Tree) → total_in_list m (copies n t) ≡ n * total m t
  total-copies zero t = omega arith
  total-copies (suc n) t = omega (arith, total-copies n t)

  -- A tree counts at least one if each node does.
  pub total-positive : ((l : Leaf) → 1 ≤ m.of_leaf l) → 1 ≤ m.of_cat → 1 ≤ m.of_alt → ((w : Wrapper) → 1 ≤ m.of_wrapper w) →
      (t : Tree) → 1 ≤ total m t
  total-positive of_leaf of_cat of_alt of_wrapper (leaf l) = of_leaf l
  total-positive of_leaf of_cat of_alt of_wrapper (cat parts) = omega arith
  total-positive of_leaf of_cat of_alt of_wrapper (alt left right) = omega arith
  total-positive of_leaf of_cat of_alt of_wrapper (wrapped w body) = omega (arith, of_wrapper w)

-- At each node, where it is allowed, m counts at most k times what m' counts;
pub record IsAtMost (k : ℕ) (m m' : Measure) : Type 0 where
  pub of_leaf : (n : ℕ) (l : Leaf) (p : Position) → LeafIsAllowed n l p → m.of_leaf l ≤ k * m'.of_leaf l
  pub of_cat : m.of_cat ≤ k * m'.of_cat
  pub of_alt : m.of_alt ≤ k * m'.of_alt
  pub of_wrapper : (w : Wrapper) → m.of_wrapper w ≤ k * m'.of_wrapper w

module _ (k : ℕ) (m m' : Measure) (each : IsAtMost k m m') where
  joined : (a b x y : ℕ) → a ≤ k * x → b ≤ k * y → a + b ≤ k * (x + y)
  joined a b x y first second = omega (arith, mul-add k x y)

  mutual
    -- then so does a tree.
    pub total-le : (n : ℕ) (t : Tree) (p : Position) → IsAllowed n t p → total m t ≤ k * total m' t
    total-le n (leaf l) p occurs = each.of_leaf n l p occurs
    total-le n (cat parts) p occurs = joined _ _ _ _ each.of_cat (total_in_list-le n parts (last_of p) occurs.1)
    total-le n (alt left right) p occurs =
        joined _ _ _ _ each.of_alt (joined _ _ _ _ (total-le n left inside occurs.1) (total-le n right inside occurs.2))
    total-le n (wrapped w body) p occurs = joined _ _ _ _ (each.of_wrapper w) (total-le n body (position_in w) occurs.2)

    total_in_list-le : (n : ℕ) (ts : Trees) (p : Position) → PartsAllowed n ts p → total_in_list m ts ≤ k * total_in_list m' ts
    total_in_list-le n no_trees p occurs = omega arith
    total_in_list-le n (more_trees t no_trees) p occurs = joined _ 0 _ 0 (total-le n t p occurs) (omega arith)
    total_in_list-le n (more_trees t (more_trees u us)) p occurs =
        joined _ _ _ _ (total-le n t inside occurs.0) (total_in_list-le n (more_trees u us) p occurs.1)

pub nesting-append : (ts us : Trees) → nesting_of_deepest (append_trees ts us) ≡ max (nesting_of_deepest ts) (nesting_of_deepest us)
nesting-append no_trees us = omega arith
nesting-append (more_trees t ts) us = omega (arith, nesting-append ts us)

-- ---- units, charges and weights

units_of_leaf-positive : (l : Leaf) → 1 ≤ units_of_leaf l
units_of_leaf-positive (char c) = omega arith
units_of_leaf-positive l = omega arith

pub units-positive : (t : Tree) → 1 ≤ units t
units-positive = total-positive sizes units_of_leaf-positive (omega arith) (omega arith) (λ w. omega arith)

weight_of_leaf-positive : (l : Leaf) → 1 ≤ weight_of_leaf l
weight_of_leaf-positive (byte_sequence []) = omega arith
weight_of_leaf-positive l = omega arith

pub weight_of_wrapper-positive : (w : Wrapper) → 1 ≤ weight_of_wrapper w
weight_of_wrapper-positive (capture_group id name) = omega arith
weight_of_wrapper-positive (loop quantifier start end) = omega arith
weight_of_wrapper-positive (loop_one quantifier) = omega arith
weight_of_wrapper-positive (lookaround negate backwards start end) = omega arith

pub weight-positive : (t : Tree) → 1 ≤ weight t
weight-positive = total-positive weights weight_of_leaf-positive (omega arith) (omega arith) weight_of_wrapper-positive

units_of_leaf-le : (n : ℕ) (l : Leaf) (p : Position) → LeafIsAllowed n l p → units_of_leaf l ≤ 5 * charge_of_leaf l
units_of_leaf-le n (char c) p occurs = omega arith
units_of_leaf-le n l p occurs = omega arith

-- A charge of one is at most five units.
pub units-le : (n : ℕ) (t : Tree) (p : Position) → IsAllowed n t p → units t ≤ 5 * charge t
units-le = total-le 5 sizes charges (record {
  of_leaf = units_of_leaf-le;
  of_cat = omega arith;
  of_alt = omega arith;
  of_wrapper = λ w. omega arith;
})

-- A lighter tree that has no more loops to unroll is less.
pub IsLess-lighter : (new old : Tree) → loops new ≤ loops old → weight new < weight old → IsLess new old
IsLess-lighter new old no_more lighter = elim (cases_lt (loops new) (loops old)) [
  | inl fewer ↦ record { less = inl fewer }
  | inr no_fewer ↦ record { less = inr (omega arith, lighter) }
]

-- ---- tests

module _ (test : Tree → Bool) where
  -- a test on some node, by the root and the nodes inside
  pub some_node-root : (t : Tree) → some_node test t ≡ (test t || some_node_inside test t)
  some_node-root (leaf l) = sym (or-false (test (leaf l)))
  some_node-root (cat parts) = refl
  some_node-root (alt left right) = refl
  some_node-root (wrapped w body) = refl

  pub some_node-append : (ts us : Trees) →
      some_node_in_list test (append_trees ts us) ≡ (some_node_in_list test ts || some_node_in_list test us)
  some_node-append no_trees us = refl
  some_node-append (more_trees t ts) us =
      ap (λ b. some_node test t || b) (some_node-append ts us)
      ∙ sym (or_assoc (some_node test t) (some_node_in_list test ts) (some_node_in_list test us))

  pub some_part-append : (ts us : Trees) → some_part test (append_trees ts us) ≡ (some_part test ts || some_part test us)
  some_part-append no_trees us = refl
  some_part-append (more_trees t ts) us =
      ap (λ b. test t || b) (some_part-append ts us) ∙ sym (or_assoc (test t) (some_part test ts) (some_part test us))

  pub some_node-copies : (n : ℕ) (t : Tree) → some_node test t ≡ false → some_node_in_list test (copies n t) ≡ false
  some_node-copies zero t none = refl
  some_node-copies (suc n) t none = ap₂ ◌||◌ none (some_node-copies n t none)

  pub LacksShape-here : (t : Tree) → LacksShape test t → test t ≡ false
  LacksShape-here t lacks = (or_parts (test t) (some_node_inside test t) (sym (some_node-root t) ∙ lacks)).0

  pub LacksShape-inside : (t : Tree) → LacksShape test t → LacksInside test t
  LacksShape-inside t lacks = (or_parts (test t) (some_node_inside test t) (sym (some_node-root t) ∙ lacks)).1

  pub LacksShape-from : (t : Tree) → LacksInside test t → test t ≡ false → LacksShape test t
  LacksShape-from t below here = some_node-root t ∙ ap₂ ◌||◌ here below

  pub ListLacksShape-append : (ts us : Trees) → ListLacksShape test ts → ListLacksShape test us → ListLacksShape test (append_trees ts us)
  ListLacksShape-append ts us first second = some_node-append ts us ∙ ap₂ ◌||◌ first second

-- A tree without a loop has none that may be unrolled.
mutual
  pub loops-none : (t : Tree) → has_loop t ≡ false → loops t ≡ 0
  loops-none (leaf l) none = refl
  loops-none (cat parts) none = omega (arith, loops-none_in_list parts none)
  loops-none (alt left right) none =
      let sides = or_parts (has_loop left) (has_loop right) none in
      omega (arith, loops-none left sides.0, loops-none right sides.1)
  loops-none (wrapped (capture_group id name) body) none = omega (arith, loops-none body none)
  loops-none (wrapped (loop q start end) body) none = absurd (false≢true (sym none))
  loops-none (wrapped (loop_one q) body) none = absurd (false≢true (sym none))
  loops-none (wrapped (lookaround negate backwards start end) body) none = omega (arith, loops-none body none)

  loops-none_in_list : (ts : Trees) → some_node_in_list (on_wrapper is_loop) ts ≡ false → total_in_list unrollables ts ≡ 0
  loops-none_in_list no_trees none = refl
  loops-none_in_list (more_trees t ts) none =
      let both = or_parts (has_loop t) (some_node_in_list (on_wrapper is_loop) ts) none in
      omega (arith, loops-none t both.0, loops-none_in_list ts both.1)
