-- Results of a traversal, composed: of a part in the whole, and of one after another.
use Rattle.std.proofs.Common.{◌≡◌, Bool, true, false, Result, Ok, Err, refl, sym, ap, subst, ◌∙◌}
use Rattle.std.specs.declared.alloc.AllocError.{AllocError}
use Rattle.std.specs.Result.{IsErr}
use Rattle.std.proofs.lemmas.Bool.{false≢true}
use Rattle.regress_tree.specs.Reading.{Direction}
use Rattle.regress_tree.specs.declared.ir.walker.Walk.{Walk}
use Rattle.regress_tree.specs.Walk.{direction_of}
use Rattle.regress_tree.specs.Tree.{Tree, leaf}
use Rattle.regress_tree.specs.Copies.{is_leaf}
use Rattle.regress_tree.specs.Shapes.{LacksInside}
use Rattle.regress_tree.proofs.lemmas.TreeContexts.{TreeContext, put, direction_at, IsLess-put}
use Rattle.std.specs.Prelude.{◌≢◌, MatchBool}
use Rattle.regress_tree.specs.Units.{IsLess}
use Rattle.regress_rewrite.specs.declared.action.PassAction.{PassAction}
use Rattle.regress_rewrite.specs.declared.action.PassAction.TheVariants.{Keep}
use Rattle.regress_rewrite.specs.Law.{Keeps, after, ObeysLaw}
use Rattle.regress_passes.specs.Sweep.{ReportsChange, Traversed, TraversedOf}
use Rattle.regress_passes.proofs.ChangesLemmas.{joined, joined-false, ReportsChange-then}
use Rattle.regress_rewrite.proofs.lemmas.Keeps.{Keeps-refl, Keeps-trans, Keeps-put}

-- What a result states about changes.

ReportsChange-put : (p : TreeContext) (response : Result Bool AllocError) (t u : Tree) → ReportsChange response t u →
    ReportsChange response (put p t) (put p u)
ReportsChange-put p (Ok true) t u reports = IsLess-put p t u reports
ReportsChange-put p (Ok false) t u reports = ap (put p) reports
ReportsChange-put p (Err e) t u reports = tt

-- Traversals.

module _ (exact : Bool) where
  pub Traversed-put : (p : TreeContext) (d : Direction) {before clean : Type 0} {t u : Tree} {response : Result Bool AllocError} →
      Traversed before clean exact (direction_at p d) t u response → Traversed before clean exact d (put p t) (put p u) response
  Traversed-put p d {response = response} swept = record {
    keeps = Keeps-put p d swept.keeps;
    changed = ReportsChange-put p response _ _ swept.changed;
    removed = swept.removed;
    left = λ is_exact lacks. ap (put p) (swept.left is_exact lacks);
  }

  pub Traversed-then : (d : Direction) {before clean before' clean' both : Type 0} {t u v : Tree} {a : Bool} {response : Result Bool AllocError} →
      Traversed before clean exact d t u (Ok a) → Traversed before' clean' exact d u v response →
      (before → u ≡ t → before') → (clean → clean' → both) → Traversed before both exact d t v (joined a response)
  Traversed-then d {t = t} {u = u} {v = v} {a = a} {response = response} first second on and = record {
    keeps = Keeps-trans d first.keeps second.keeps;
    changed = ReportsChange-then a response t u v first.changed second.changed;
    removed = λ same.
        let parts = joined-false a response same in
        and (first.removed (ap Ok parts.0)) (second.removed parts.1);
    left = λ is_exact lacks.
        let same = first.left is_exact lacks in
        second.left is_exact (on lacks same) ∙ same;
  }

  -- a leaf has no children to traverse
  pub Traversed-leaf : (shape : Tree → Bool) (d : Direction) (t : Tree) → is_leaf t ≡ true → TraversedOf (LacksInside shape) exact d t t (Ok false)
  Traversed-leaf shape d (leaf l) is = record {
    keeps = Keeps-refl d (leaf l);
    changed = refl;
    removed = λ same. refl;
    left = λ is_exact lacks. refl;
  }
  Traversed-leaf shape d t is = absurd (false≢true is)

  -- if nothing changed the tree is the same
  pub Traversed-same : (d : Direction) {before clean : Type 0} {t u : Tree} {response : Result Bool AllocError} →
      Traversed before clean exact d t u response → Traversed before (clean × (u ≡ t)) exact d t u response
  Traversed-same d {t = t} {u = u} {response = response} swept = record {
    keeps = swept.keeps;
    changed = swept.changed;
    removed = λ same. (swept.removed same, subst (λ (r : Result Bool AllocError). ReportsChange r t u) same swept.changed);
    left = swept.left;
  }

  -- after an error nothing is stated about removed shapes
  pub Traversed-error : (d : Direction) {before clean clean' : Type 0} {t u u' : Tree} {r : Result Bool AllocError}
      (response : Result Bool AllocError) → IsErr response →
      u' ≡ u → Traversed before clean exact d t u r → Traversed before clean' exact d t u' response
  Traversed-error d (Ok b) err same swept = absurd (false≢true err)
  Traversed-error d {t = t} (Err e) err same swept = record {
    keeps = subst (λ (x : Tree). Keeps d t x) (sym same) swept.keeps;
    changed = tt;
    removed = λ never. cc;
    left = λ is_exact lacks. same ∙ swept.left is_exact lacks;
  }

  -- a traversal of the children has the direction of the node
  pub Traversed-walk : (walk inner : Walk) {before clean : Type 0} {t u : Tree} {response : Result Bool AllocError} →
      inner.in_lookbehind ≡ walk.in_lookbehind → Traversed before clean exact (direction_of inner) t u response →
      Traversed before clean exact (direction_of walk) t u response
  Traversed-walk walk inner same swept = rw (← same) swept

-- Of one node: the action that the rewrite returned is carried out.
pub Traversed-carried : (removes : Tree → Bool) (exact : Bool) (d : Direction) (old left new : Tree) (action : PassAction) (changed : Bool) →
    ObeysLaw removes exact d old left action → new ≡ after action left → MatchBool changed (action ≢ Keep) (action ≡ Keep) →
    TraversedOf (λ t. removes t ≡ false) exact d old new (Ok changed)
Traversed-carried removes exact d old left new action true lawful is other = record {
  keeps = subst (λ (u : Tree). Keeps d old u) (sym is) lawful.keeps;
  changed = subst (λ (u : Tree). IsLess u old) (sym is) (lawful.less other);
  removed = λ never. cc;
  left = λ is_exact lacks. absurd (other (lawful.exact is_exact lacks));
}
Traversed-carried removes exact d old left new action false lawful is kept =
    let same : new ≡ old = is ∙ ap (λ (a : PassAction). after a left) kept ∙ lawful.kept kept in
    record {
      keeps = subst (λ (u : Tree). Keeps d old u) (sym is) lawful.keeps;
      changed = same;
      removed = λ never. subst (λ (u : Tree). removes u ≡ false) (sym same) (lawful.clean kept);
      left = λ is_exact lacks. same;
    }
