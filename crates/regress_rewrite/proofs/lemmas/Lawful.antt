-- The law, for any shape that is removed: what each action of a rewrite has to show.
use Rattle.std.proofs.Common.{◌≡◌, ◌≢◌, Bool, true, false, Result, IfOk, inl, inr, refl, sym, subst, ◌∙◌, arith}
use Rattle.std.proofs.lemmas.Bool.{false≢true}
use Rattle.std.specs.declared.alloc.AllocError.{AllocError}
use Rattle.regress_tree.specs.declared.ir.node.Node.{Node}
use Rattle.regress_tree.specs.Reading.{Direction}
use Rattle.regress_tree.specs.Tree.{Tree, Trees, leaf, empty, cat, no_trees, tree}
use Rattle.regress_tree.specs.Units.{IsLess}
use Rattle.regress_rewrite.specs.declared.action.PassAction.{PassAction}
use Rattle.regress_rewrite.specs.declared.action.PassAction.TheVariants.{Keep, Modified, Remove, Replace}
use Rattle.regress_rewrite.specs.Law.{Keeps, after, ObeysLaw}
use Rattle.regress_rewrite.specs.Taken.{IsOnlyPart}
use Rattle.regress_tree.proofs.lemmas.Measures.{IsLess-lighter}
use Rattle.regress_tree.proofs.lemmas.TreeContexts.{among, IsLess-part}
use Rattle.regress_rewrite.proofs.lemmas.Keeps.{Keeps-refl, Keeps-trans, Keeps-no_part, Keeps-one_part}
use Rattle.regress_tree.proofs.lemmas.Falling.{IsLess-trans}

module _ (removes : Tree → Bool) (exact : Bool) (d : Direction) where
  -- what replaces a `Cat` of fewer than two parts is less
  pub alone_keeps : (t : Tree) (ts : Trees) → IsOnlyPart t ts → Keeps d (cat ts) t × IsLess t (cat ts)
  alone_keeps t ts (inl none) =
      subst (λ (us : Trees). Keeps d (cat us) t × IsLess t (cat us)) (sym none.0)
      (subst (λ (u : Tree). Keeps d (cat no_trees) u × IsLess u (cat no_trees)) (sym none.1)
      (Keeps-no_part d, IsLess-lighter (leaf empty) (cat no_trees) (omega arith) (omega arith)))
  alone_keeps t ts (inr one) =
      subst (λ (us : Trees). Keeps d (cat us) t × IsLess t (cat us)) (sym one)
      (Keeps-one_part d t, IsLess-part (among no_trees no_trees) t)

  -- a node with nothing to remove may be kept
  pub keep_lawful : (t : Tree) → removes t ≡ false → ObeysLaw removes exact d t t Keep
  keep_lawful t none = record {
    keeps = Keeps-refl d t;
    less = λ other. absurd (other refl);
    kept = λ same. refl;
    clean = λ same. none;
    exact = λ is_exact lacks. refl;
  }

  -- a statement about an action on a node, transferred to equal trees
  pub lawful_as : (response : Result PassAction AllocError) {old old' left left' : Tree} → old ≡ old' → left ≡ left' →
      IfOk response (ObeysLaw removes exact d old left) → IfOk response (ObeysLaw removes exact d old' left')
  lawful_as response old_is left_is lawful = rw (old_is, left_is) at lawful

  module _ (old : Tree) (some : removes old ≡ true) where
    changed : (left : Tree) (action : PassAction) → action ≢ Keep → Keeps d old (after action left) → IsLess (after action left) old →
        ObeysLaw removes exact d old left action
    changed left action other keeps is_less = record {
      keeps = keeps;
      less = λ same. is_less;
      kept = λ same. absurd (other same);
      clean = λ same. absurd (other same);
      exact = λ is_exact none. absurd (false≢true (sym none ∙ some));
    }

    -- a node with a shape to remove may be modified, removed or replaced, if the result keeps what the law requires and
    -- is less
    pub modified_lawful : (new : Tree) → Keeps d old new → IsLess new old → ObeysLaw removes exact d old new Modified
    modified_lawful new = changed new Modified (λ same. cc)

    pub remove_lawful : (left : Tree) → Keeps d old (leaf empty) → IsLess (leaf empty) old → ObeysLaw removes exact d old left Remove
    remove_lawful left = changed left Remove (λ same. cc)

    pub replace_lawful : (left : Tree) (node : Node) → Keeps d old (tree node) → IsLess (tree node) old →
        ObeysLaw removes exact d old left (Replace node)
    replace_lawful left node = changed left (Replace node) (λ same. cc)
