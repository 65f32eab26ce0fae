-- Contexts: a tree with a hole where a part is put, and what holds for the whole by what is put there.
use Rattle.std.proofs.Common.{◌≡◌, ℕ, ◌+◌, ◌<◌, ◌≤◌, ◌⊎◌, inl, inr, Bool, false, ◌||◌, ◌==◌, List, ◌++◌, length, count_by, refl, sym, ap, ap₂, ◌∙◌, arith}
use Rattle.std.proofs.lemmas.Bool.{or_parts}
use Rattle.std.specs.Prelude.{if◌then◌else◌}
use Rattle.regress_tree.specs.Reading.{Direction, forwards, backwards}
use Rattle.regress_tree.specs.Steps.{Matcher, Alike, Setting}
use Rattle.regress_tree.specs.Tree.{Leaf, Wrapper, capture_group, loop, loop_one, lookaround, Tree, Trees, cat, alt, wrapped, no_trees, more_trees, append_trees}
use Rattle.regress_tree.specs.Matching.{direction_in, wrapper_steps, steps, steps_of_parts}
use Rattle.regress_tree.specs.declared.ir.walker.Walk.{Walk}
use Rattle.regress_tree.specs.Visits.{is_backwards_in}
use Rattle.regress_tree.specs.Walk.{direction_of}
use Rattle.regress_tree.specs.WellFormed.{captures, captures_of_trees, captures_of_wrapper, Position, inside, last_of, position_in, HasGroups, WrapperIsAllowed, IsAllowed, PartsAllowed}
use Rattle.regress_tree.specs.Measures.{Measure, total, total_in_list}
use Rattle.regress_tree.specs.Units.{sizes, loops, unrollables, account, weight, weights, IsLess}
use Rattle.regress_tree.specs.Shapes.{on_leaf, LacksShape, ListLacksShape, LacksInside}
use Rattle.regress_tree.proofs.lemmas.Alike.{Alike-refl, Alike-then, Alike-or, Alike-capture, Alike-repeat, Alike-look}
use Rattle.regress_tree.proofs.lemmas.Measures.{weight_of_wrapper-positive, IsLess-lighter, total-append, some_node-append, LacksShape-here, LacksShape-inside, LacksShape-from, ListLacksShape-append}

pub data TreeContext : Type 0 where
  -- in a list, between these trees
  among : (before after : Trees) → TreeContext
  left_of : (right : Tree) → TreeContext
  right_of : (left : Tree) → TreeContext
  -- the body of a wrapper
  inside_of : (w : Wrapper) → TreeContext

-- the whole tree with t in the hole
abbrev pub put : TreeContext → Tree → Tree
put (among before after) t = cat (append_trees before (more_trees t after))
put (left_of right) t = alt t right
put (right_of left) t = alt left t
put (inside_of w) t = wrapped w t

-- the direction in the hole
abbrev pub direction_at : TreeContext → Direction → Direction
direction_at (among before after) d = d
direction_at (left_of right) d = d
direction_at (right_of left) d = d
direction_at (inside_of w) d = direction_in w d

-- The walk at the body of a wrapper has the direction in which the body is matched.
pub direction_inside : (w : Wrapper) (walk inner : Walk) → inner.in_lookbehind ≡ is_backwards_in w walk.in_lookbehind →
    direction_of inner ≡ direction_in w (direction_of walk)
direction_inside w walk inner is = rw is (by w)
  where
    by : (v : Wrapper) → (if is_backwards_in v walk.in_lookbehind then backwards else forwards) ≡ direction_in v (direction_of walk)
    by (capture_group id name) = refl
    by (loop quantifier start end) = refl
    by (loop_one quantifier) = refl
    by (lookaround negate looks_back start end) = refl

-- ---- what the whole matches

module _ (setting : Setting) (bytes : List ℕ) where
  -- Alike bodies give alike wholes. For a new wrapper only this lemma needs a new case here.
  Alike-wrapper : (w : Wrapper) (f g : Matcher) → Alike f g → Alike (wrapper_steps setting bytes w f) (wrapper_steps setting bytes w g)
  Alike-wrapper (capture_group id name) f g alike = Alike-capture id f g alike
  Alike-wrapper (loop quantifier start end) f g alike = Alike-repeat (length bytes + 1) quantifier start end f g alike
  Alike-wrapper (loop_one quantifier) f g alike = Alike-repeat (length bytes + 1) quantifier 0 0 f g alike
  Alike-wrapper (lookaround negate looks_back start end) f g alike = Alike-look negate f g alike

  Alike-among : (d : Direction) (before after : Trees) (t u : Tree) → Alike (steps setting bytes d t) (steps setting bytes d u) →
      Alike (steps_of_parts setting bytes d (append_trees before (more_trees t after)))
      (steps_of_parts setting bytes d (append_trees before (more_trees u after)))
  Alike-among d no_trees after t u alike = Alike-then _ _ _ _ alike (Alike-refl _)
  Alike-among d (more_trees x before) after t u alike = Alike-then _ _ _ _ (Alike-refl _) (Alike-among d before after t u alike)

  pub Alike-put : (p : TreeContext) (d : Direction) (t u : Tree) →
      Alike (steps setting bytes (direction_at p d) t) (steps setting bytes (direction_at p d) u) →
      Alike (steps setting bytes d (put p t)) (steps setting bytes d (put p u))
  Alike-put (among before after) d t u alike = Alike-among d before after t u alike
  Alike-put (left_of right) d t u alike = Alike-or _ _ _ _ alike (Alike-refl _)
  Alike-put (right_of left) d t u alike = Alike-or _ _ _ _ (Alike-refl _) alike
  Alike-put (inside_of w) d t u alike = Alike-wrapper w _ _ alike

-- ---- the groups of the whole

captures-among : (before after : Trees) (t u : Tree) → captures u ≡ captures t →
    captures_of_trees (append_trees before (more_trees u after)) ≡ captures_of_trees (append_trees before (more_trees t after))
captures-among no_trees after t u same = ap (λ cs. cs ++ captures_of_trees after) same
captures-among (more_trees x before) after t u same = ap (λ cs. captures x ++ cs) (captures-among before after t u same)

pub captures-put : (p : TreeContext) (t u : Tree) → captures u ≡ captures t → captures (put p u) ≡ captures (put p t)
captures-put (among before after) t u same = captures-among before after t u same
captures-put (left_of right) t u same = ap (λ cs. cs ++ captures right) same
captures-put (right_of left) t u same = ap (λ cs. captures left ++ cs) same
captures-put (inside_of w) t u same = ap (λ cs. captures_of_wrapper w ++ cs) same

-- ---- where the whole is allowed

HasGroups-around : (start end : ℕ) (t u : Tree) → captures u ≡ captures t → HasGroups start end t → HasGroups start end u
HasGroups-around start end t u same has k = ap (count_by (λ c. c.id == k)) same ∙ has k

-- A wrapper requires nothing of its body except its groups.
WrapperIsAllowed-around : (n : ℕ) (w : Wrapper) (t u : Tree) → captures u ≡ captures t → WrapperIsAllowed n w t → WrapperIsAllowed n w u
WrapperIsAllowed-around n (capture_group id name) t u same m = m
WrapperIsAllowed-around n (loop quantifier start end) t u same m =
    (m.0, HasGroups-around start end t u same m.1)
WrapperIsAllowed-around n (loop_one quantifier) t u same m = m
WrapperIsAllowed-around n (lookaround negate looks_back start end) t u same m = HasGroups-around start end t u same m

module _ (t u : Tree) (occurs : (n : ℕ) (p : Position) → IsAllowed n t p → IsAllowed n u p) where
  PartsAllowed-among : (n : ℕ) (p : Position) (before after : Trees) → PartsAllowed n (append_trees before (more_trees t after)) p →
      PartsAllowed n (append_trees before (more_trees u after)) p
  PartsAllowed-among n p no_trees no_trees m = occurs n p m
  PartsAllowed-among n p no_trees (more_trees y after) m = (occurs n inside m.0, m.1)
  PartsAllowed-among n p (more_trees x no_trees) after m = (m.0, PartsAllowed-among n p no_trees after m.1)
  PartsAllowed-among n p (more_trees x (more_trees y before)) after m = (m.0, PartsAllowed-among n p (more_trees y before) after m.1)

  pub IsAllowed-put : captures u ≡ captures t → (position : TreeContext) (n : ℕ) (p : Position) →
      IsAllowed n (put position t) p → IsAllowed n (put position u) p
  IsAllowed-put same (among before after) n p m = (m.0, PartsAllowed-among n (last_of p) before after m.1)
  IsAllowed-put same (left_of right) n p m = (m.0, occurs n inside m.1, m.2)
  IsAllowed-put same (right_of left) n p m = (m.0, m.1, occurs n inside m.2)
  IsAllowed-put same (inside_of w) n p m = (m.0, WrapperIsAllowed-around n w t u same m.1, occurs n (position_in w) m.2)

pub PartsAllowed-part : (n : ℕ) (p : Position) (before after : Trees) (t : Tree) → PartsAllowed n (append_trees before (more_trees t after)) p →
    (q : Position) × IsAllowed n t q
PartsAllowed-part n p no_trees no_trees t m = (p, m)
PartsAllowed-part n p no_trees (more_trees y after) t m = (inside, m.0)
PartsAllowed-part n p (more_trees x no_trees) after t m = PartsAllowed-part n p no_trees after t m.1
PartsAllowed-part n p (more_trees x (more_trees y before)) after t m = PartsAllowed-part n p (more_trees y before) after t m.1

-- A part of a tree that is allowed somewhere is allowed somewhere.
pub IsAllowed-part : (position : TreeContext) (t : Tree) (n : ℕ) (p : Position) → IsAllowed n (put position t) p → (q : Position) × IsAllowed n t q
IsAllowed-part (among before after) t n p m = PartsAllowed-part n (last_of p) before after t m.1
IsAllowed-part (left_of right) t n p m = (inside, m.1)
IsAllowed-part (right_of left) t n p m = (inside, m.2)
IsAllowed-part (inside_of w) t n p m = (position_in w, m.2)

-- ---- the size of the whole

module _ (m : Measure) where
  abbrev total_around : TreeContext → ℕ
  total_around (among before after) = m.of_cat + (total_in_list m before + total_in_list m after)
  total_around (left_of right) = m.of_alt + total m right
  total_around (right_of left) = m.of_alt + total m left
  total_around (inside_of w) = m.of_wrapper w

  pub total-put : (p : TreeContext) (t : Tree) → total m (put p t) ≡ total_around p + total m t
  total-put (among before after) t = omega (arith, total-append m before (more_trees t after))
  total-put (left_of right) t = omega arith
  total-put (right_of left) t = omega arith
  total-put (inside_of w) t = omega arith

pub account-put : (p : TreeContext) (t u : Tree) → account u ≤ account t → account (put p u) ≤ account (put p t)
account-put p t u no_more =
    omega (arith, total-put sizes p t, total-put sizes p u, total-put unrollables p t, total-put unrollables p u)

pub IsLess-put : (p : TreeContext) (t u : Tree) → IsLess u t → IsLess (put p u) (put p t)
IsLess-put p t u is_less = record { less = by is_less.less }
  where
    by : (loops u < loops t) ⊎ ((loops u ≡ loops t) × (weight u < weight t)) →
        (loops (put p u) < loops (put p t)) ⊎ ((loops (put p u) ≡ loops (put p t)) × (weight (put p u) < weight (put p t)))
    by (inl fewer) = inl (omega (arith, total-put unrollables p t, total-put unrollables p u))
    by (inr lighter) = inr (
      omega (arith, lighter.0, total-put unrollables p t, total-put unrollables p u),
      omega (arith, lighter.1, total-put weights p t, total-put weights p u),
    )

-- The part alone is less than the whole.
weight_around-positive : (p : TreeContext) → 1 ≤ total_around weights p
weight_around-positive (among before after) = omega arith
weight_around-positive (left_of right) = omega arith
weight_around-positive (right_of left) = omega arith
weight_around-positive (inside_of w) = weight_of_wrapper-positive w

pub IsLess-part : (p : TreeContext) (t : Tree) → IsLess t (put p t)
IsLess-part p t = IsLess-lighter t (put p t) (omega (arith, total-put unrollables p t))
    (omega (arith, total-put weights p t, weight_around-positive p))

pub account-part : (p : TreeContext) (t : Tree) → account t ≤ account (put p t)
account-part p t = omega (arith, total-put sizes p t, total-put unrollables p t)

-- ---- the shapes that the whole lacks

module _ (shape : Tree → Bool) where
  ListLacksShape-part : (before after : Trees) (t : Tree) → ListLacksShape shape (append_trees before (more_trees t after)) →
      LacksShape shape t
  ListLacksShape-part before after t lacks =
      let rest = (or_parts _ _ (sym (some_node-append shape before (more_trees t after)) ∙ lacks)).1 in
      (or_parts _ _ rest).0

  pub LacksShape-part : (p : TreeContext) (t : Tree) → LacksInside shape (put p t) → LacksShape shape t
  LacksShape-part (among before after) t lacks = ListLacksShape-part before after t lacks
  LacksShape-part (left_of right) t lacks = (or_parts _ _ lacks).0
  LacksShape-part (right_of left) t lacks = (or_parts _ _ lacks).1
  LacksShape-part (inside_of w) t lacks = lacks

  pub LacksShape-whole : (p : TreeContext) (t : Tree) → LacksShape shape (put p t) → LacksShape shape t
  LacksShape-whole p t lacks = LacksShape-part p t (LacksShape-inside shape (put p t) lacks)

  LacksInside-put : (p : TreeContext) (t u : Tree) → (LacksShape shape t → LacksShape shape u) → LacksInside shape (put p t) →
      LacksInside shape (put p u)
  LacksInside-put (among before after) t u kept lacks =
      let first = or_parts _ _ (sym (some_node-append shape before (more_trees t after)) ∙ lacks) in
      let rest = or_parts _ _ first.1 in
      ListLacksShape-append shape before (more_trees u after) first.0 (ap₂ ◌||◌ (kept rest.0) rest.1)
  LacksInside-put (left_of right) t u kept lacks =
      let sides = or_parts _ _ lacks in
      ap₂ ◌||◌ (kept sides.0) sides.1
  LacksInside-put (right_of left) t u kept lacks =
      let sides = or_parts _ _ lacks in
      ap₂ ◌||◌ sides.0 (kept sides.1)
  LacksInside-put (inside_of w) t u kept lacks = kept lacks

  -- a shape that does not depend on the part
  pub LacksShape-put : (p : TreeContext) (t u : Tree) → shape (put p u) ≡ shape (put p t) → (LacksShape shape t → LacksShape shape u) →
      LacksShape shape (put p t) → LacksShape shape (put p u)
  LacksShape-put p t u same kept lacks =
      LacksShape-from shape (put p u) (LacksInside-put p t u kept (LacksShape-inside shape (put p t) lacks))
      (same ∙ LacksShape-here shape (put p t) lacks)

pub on_leaf-put : (test : Leaf → Bool) (p : TreeContext) (t : Tree) → on_leaf test (put p t) ≡ false
on_leaf-put test (among before after) t = refl
on_leaf-put test (left_of right) t = refl
on_leaf-put test (right_of left) t = refl
on_leaf-put test (inside_of w) t = refl
