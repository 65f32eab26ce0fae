-- The calls of a rewrite, composed over a tree.
use Rattle.std.proofs.Common.{◌≡◌, ◌≢◌, ℕ, Bool, true, false, ◌||◌, Result, Ok, Err, List, take, drop, inl, inr, arith, refl, sym, ap, ap₂, subst, ◌∙◌}
use Rattle.std.specs.declared.alloc.AllocError.{AllocError}
use Rattle.std.specs.Result.{IsErr}
use Rattle.std.proofs.lemmas.Bool.{false≢true}
use Rattle.regress_tree.specs.declared.ir.walker.Walk.{Walk}
use Rattle.regress_tree.specs.Tree.{Tree, Trees, leaf, cat, alt, wrapped, no_trees, more_trees, append_trees, trees}
use Rattle.regress_tree.specs.declared.ir.node.Node.{Node}
use Rattle.regress_tree.specs.Units.{IsLess, loops, weight}
use Rattle.regress_tree.proofs.lemmas.Lists.{trees-append}
use Rattle.std.proofs.lemmas.List.{take-append-drop}
use Rattle.regress_tree.specs.Spine.{reattach}
use Rattle.regress_tree.specs.Visits.{Visited, Inside, ListVisited, after_children, in_leaf, in_cat, in_alt, in_wrapped, no_more, one_more, deeper, is_backwards_in}
use Rattle.regress_tree.specs.Climbs.{ClimbedMut}
use Rattle.regress_rewrite.specs.declared.action.PassAction.{PassAction}
use Rattle.regress_passes.specs.Passes.{Applied, is_success}
use Rattle.regress_passes.proofs.ChangesLemmas.{joined}
use Rattle.regress_tree.specs.Reading.{Direction}
use Rattle.regress_tree.specs.Shapes.{LacksShape, LacksInside}
use Rattle.regress_tree.proofs.lemmas.TreeContexts.{left_of, right_of}
use Rattle.regress_passes.specs.Sweep.{Traversed, TraversedOf}
use Rattle.regress_passes.proofs.SweepLemmas.{Traversed-put, Traversed-then, Traversed-same}
use Rattle.regress_tree.proofs.lemmas.Measures.{LacksShape-here, LacksShape-inside, LacksShape-from}
use Rattle.std.proofs.lemmas.Bool.{or_parts}

module _ {R : Type 0} (step : R → Tree → Walk → Result PassAction AllocError → Tree → R → Type 0) (unicode : Bool) where
  -- After an error the rest of a traversal changes nothing.
  after : (t : Tree) (d : ℕ) (lookbehind : Bool) (a : R) → Inside (Applied step unicode) true d lookbehind t t (a, false) (a, false) →
      Visited (Applied step unicode) true d lookbehind t t (a, false) (a, false)
  after t d lookbehind a inside = after_children {skip = false} inside (refl, refl, refl)

  mutual
    inside_stays : (t : Tree) (d : ℕ) (lookbehind : Bool) (a : R) → Inside (Applied step unicode) true d lookbehind t t (a, false) (a, false)
    inside_stays (leaf l) d lookbehind a = in_leaf
    inside_stays (cat parts) d lookbehind a = in_cat (list_stays parts (deeper d) lookbehind a)
    inside_stays (alt left right) d lookbehind a = in_alt (after left (deeper d) lookbehind a (inside_stays left (deeper d) lookbehind a))
        (after right (deeper d) lookbehind a (inside_stays right (deeper d) lookbehind a))
    inside_stays (wrapped w body) d lookbehind a = in_wrapped (after body (deeper d) (is_backwards_in w lookbehind) a (inside_stays body (deeper d) (is_backwards_in w lookbehind) a))

    pub list_stays : (ts : Trees) (d : ℕ) (lookbehind : Bool) (a : R) → ListVisited (Applied step unicode) true d lookbehind ts ts (a, false) (a, false)
    list_stays no_trees d lookbehind a = no_more
    list_stays (more_trees t ts) d lookbehind a = one_more (after t d lookbehind a (inside_stays t d lookbehind a)) (list_stays ts d lookbehind a)

  pub stays : (t : Tree) (d : ℕ) (lookbehind : Bool) (a : R) → Visited (Applied step unicode) true d lookbehind t t (a, false) (a, false)
  stays t d lookbehind a = after t d lookbehind a (inside_stays t d lookbehind a)

  -- after an error no node above is rewritten either
  pub way_stays : (above t : Tree) (depth : ℕ) (lookbehind : Bool) (a : R) →
      ClimbedMut (Applied step unicode) above depth lookbehind t (reattach above t) (a, false) (a, false)
  way_stays (leaf l) t depth lookbehind a = (refl, refl)
  way_stays (cat parts) t depth lookbehind a = (refl, refl)
  way_stays (alt left above) t depth lookbehind a = ((a, false), alt left t, false, (refl, refl, refl), way_stays above (alt left t) depth lookbehind a)
  way_stays (wrapped w body) t depth lookbehind a = (refl, refl)

pub not_returned : (response : Result Bool AllocError) → IsErr response → is_success response ≡ false
not_returned (Ok b) err = absurd (false≢true err)
not_returned (Err e) err = refl

pub less_differs : (t u : Tree) → IsLess u t → u ≢ t
less_differs t u less same =
    elim less.less [
      | inl fewer ↦ omega (arith, ap loops same, fewer)
      | inr lighter ↦ omega (arith, ap weight same, lighter.1)
    ]

-- a list of parts is those that were traversed, and the others unchanged
pub list_whole : (now old : List Node) (i : ℕ) → drop i now ≡ drop i old → trees now ≡ append_trees (trees (take i now)) (trees (drop i old))
list_whole now old i same =
    ap trees (sym (take-append-drop i now)) ∙ trees-append (take i now) (drop i now)
    ∙ ap (λ ns. append_trees (trees (take i now)) (trees ns)) same

-- a statement about the children of a node, transferred to equal trees
module _ {t u v w : Tree} (t_is : t ≡ v) (u_is : u ≡ w) where
  pub Inside-as : {State : Type 0} {Call : State → Tree → ℕ → Bool → State → Tree → Bool → Type 0} {d : ℕ} {lookbehind : Bool} {a b : State} →
      Inside Call true d lookbehind t u a b → Inside Call true d lookbehind v w a b
  Inside-as inside = rw (t_is, u_is) at inside

  pub Traversed-as : (shape : Tree → Bool) {exact : Bool} {d : Direction} {response : Result Bool AllocError} →
      TraversedOf (LacksInside shape) exact d t u response → TraversedOf (LacksInside shape) exact d v w response
  Traversed-as shape swept = rw (t_is, u_is) at swept

-- The two sides of an `Alt`.
module _ (exact : Bool) (d : Direction) (shape : Tree → Bool) (left left' right : Tree) (changed : Bool) where
  sides_lack : LacksInside shape (alt left right) → LacksShape shape left × LacksShape shape right
  sides_lack lacks = or_parts _ _ lacks

  pub left_swept : {response : Result Bool AllocError} → TraversedOf (LacksShape shape) exact d left left' response →
      Traversed (LacksInside shape (alt left right)) (LacksShape shape left') exact d (alt left right) (alt left' right) response
  left_swept first =
      let there = Traversed-put exact (left_of right) d first in
      record {
        keeps = there.keeps;
        changed = there.changed;
        removed = there.removed;
        left = λ is_exact lacks. there.left is_exact (sides_lack lacks).0;
      }

  pub sides_swept : (right' : Tree) (response : Result Bool AllocError) → TraversedOf (LacksShape shape) exact d left left' (Ok changed) →
      TraversedOf (LacksShape shape) exact d right right' response →
      TraversedOf (LacksInside shape) exact d (alt left right) (alt left' right') (joined changed response)
  sides_swept right' response first second =
      Traversed-then exact d (left_swept first) (Traversed-put exact (right_of left') d second) (λ lacks same. (sides_lack lacks).1)
      (λ a b. ap₂ ◌||◌ a b)

-- The children are traversed, and then the node is rewritten.
module _ (exact : Bool) (d : Direction) (shape : Tree → Bool) (t u v : Tree) (changed : Bool) where
  inside_swept : TraversedOf (LacksInside shape) exact d t u (Ok changed) →
      Traversed (LacksShape shape t) (LacksInside shape u) exact d t u (Ok changed)
  inside_swept first = record {
    keeps = first.keeps;
    changed = first.changed;
    removed = first.removed;
    left = λ is_exact lacks. first.left is_exact (LacksShape-inside shape t lacks);
  }

  pub node_swept : (response : Result Bool AllocError) → TraversedOf (LacksInside shape) exact d t u (Ok changed) →
      TraversedOf (λ x. shape x ≡ false) exact d u v response → TraversedOf (LacksShape shape) exact d t v (joined changed response)
  node_swept response first second =
      Traversed-then exact d (inside_swept first) (Traversed-same exact d second)
      (λ lacks same. LacksShape-here shape u (subst (λ (x : Tree). LacksShape shape x) (sym same) lacks))
      (λ inside this. subst (λ (x : Tree). LacksShape shape x) (sym this.1) (LacksShape-from shape u inside (sym (ap shape this.1) ∙ this.0)))
