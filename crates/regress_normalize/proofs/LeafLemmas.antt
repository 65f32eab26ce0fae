-- A leaf: the kinds of shapes are removed in order.
use Rattle.std.proofs.Common.{◌≡◌, ◌<◌, ◌⊎◌, Bool, true, false, inl, inr, Result, Ok, Err, refl, sym, ap, subst, ◌∙◌, arith}
use Rattle.std.specs.Prelude.{IfOk}
use Rattle.std.specs.Result.{IsErr}
use Rattle.std.proofs.lemmas.Bool.{false≢true}
use Rattle.std.specs.declared.alloc.AllocError.{AllocError}
use Rattle.regress_tree.specs.Copies.{is_leaf}
use Rattle.regress_tree.specs.NodeTests.{matches_exactly_one_char}
use Rattle.regress_tree.specs.NormalForm.{IsNormal}
use Rattle.regress_tree.specs.Reading.{Direction, forwards}
use Rattle.regress_tree.specs.Shapes.{LacksShape, is_cat, is_simplified_away, is_formed_away, is_emptied_away}
use Rattle.regress_tree.specs.Tree.{Leaf, empty, Tree, leaf, cat, alt, wrapped}
use Rattle.regress_tree.specs.Units.{weight, loops, IsLess}
use Rattle.regress_tree.specs.WellFormed.{one_character}
use Rattle.regress_tree.proofs.lemmas.Measures.{LacksShape-here}
use Rattle.regress_tree.proofs.lemmas.Positions.{IsAllowed-one_character}
use Rattle.regress_rewrite.specs.declared.action.PassAction.{PassAction}
use Rattle.regress_rewrite.specs.declared.action.PassAction.TheVariants.{Keep}
use Rattle.regress_rewrite.specs.Law.{IsPart, Keeps, after, ObeysLaw}
use Rattle.regress_rewrite.proofs.lemmas.Keeps.{Keeps-refl, Keeps-trans, IsPart-kept}
use Rattle.regress_rewrite.proofs.lemmas.Emptying.{emptied_keeps}
use Rattle.regress_normalize.specs.declared.facts.PartFacts.{PartFacts}
use Rattle.regress_normalize.specs.Normalized.{Normalized}
use Rattle.regress_normalize.specs.PartFacts.{MayBeCharacterLoopBody, HasFacts}
use Rattle.regress_normalize.specs.Steps.{Clears}
use Rattle.regress_normalize.proofs.GoalLemmas.{cleared_goal}
use Rattle.regress_normalize.proofs.NormalLemmas.{IsNormal-leaf}

-- ---- leaves

-- a leaf lacks a shape if its root does
leaf_lacks : (shape : Tree → Bool) (t : Tree) → is_leaf t ≡ true → shape t ≡ false → LacksShape shape t
leaf_lacks shape (leaf l) is none = none
leaf_lacks shape (cat parts) is none = absurd (false≢true is)
leaf_lacks shape (alt left right) is none = absurd (false≢true is)
leaf_lacks shape (wrapped w body) is none = absurd (false≢true is)

leaf_normal : (t : Tree) → is_leaf t ≡ true → is_simplified_away t ≡ false → is_formed_away t ≡ false → is_emptied_away t ≡ false →
    IsNormal t
leaf_normal (leaf l) is simplified formed emptied = IsNormal-leaf l simplified formed emptied
leaf_normal (cat parts) is simplified formed emptied = absurd (false≢true is)
leaf_normal (alt left right) is simplified formed emptied = absurd (false≢true is)
leaf_normal (wrapped w body) is simplified formed emptied = absurd (false≢true is)

leaf_is_no_cat : (t : Tree) → is_leaf t ≡ true → is_cat t ≡ false
leaf_is_no_cat (leaf l) is = refl
leaf_is_no_cat (cat parts) is = absurd (false≢true is)
leaf_is_no_cat (alt left right) is = absurd (false≢true is)
leaf_is_no_cat (wrapped w body) is = absurd (false≢true is)

-- a leaf that is less than another weighs less
pub leaf_lighter : (t u : Tree) → is_leaf t ≡ true → is_leaf u ≡ true → IsLess u t → weight u < weight t
leaf_lighter (leaf l) (leaf k) is is' less = by less.less
  where
    by : ((loops (leaf k) < loops (leaf l)) ⊎ ((loops (leaf k) ≡ loops (leaf l)) × (weight (leaf k) < weight (leaf l)))) →
        weight (leaf k) < weight (leaf l)
    by (inl fewer) = absurd (omega (arith, fewer))
    by (inr lighter) = lighter.1
leaf_lighter (leaf l) (cat parts) is is' less = absurd (false≢true is')
leaf_lighter (leaf l) (alt left right) is is' less = absurd (false≢true is')
leaf_lighter (leaf l) (wrapped w body) is is' less = absurd (false≢true is')
leaf_lighter (cat parts) u is is' less = absurd (false≢true is)
leaf_lighter (alt left right) u is is' less = absurd (false≢true is)
leaf_lighter (wrapped w body) u is is' less = absurd (false≢true is)

-- ---- one more step

pub Clears-refl : (removes : Tree → Bool) (t : Tree) → is_leaf t ≡ true → Clears removes t t
Clears-refl removes t is = record {
  keeps = λ d. Keeps-refl d t;
  leaf = is;
  left = λ none. refl;
}

pub IsPart-cleared : (removes : Tree → Bool) (old t : Tree) → Clears removes old t → IsPart old → IsPart t
IsPart-cleared removes old t clears part = IsPart-kept forwards (clears.keeps forwards) part

module _ (removes : Tree → Bool) (t left : Tree) (action : PassAction) (lawful : (d : Direction) → ObeysLaw removes true d t left action) where
  -- `Keep` leaves the node unchanged
  pub kept : action ≡ Keep → after action left ≡ t
  kept same = ap (λ (a : PassAction). after a left) same ∙ (lawful forwards).kept same

  pub removed : action ≡ Keep → removes (after action left) ≡ false
  removed same = ap removes (kept same) ∙ (lawful forwards).clean same

  pub Clears-next : (old new : Tree) → Clears removes old t → new ≡ after action left → is_leaf new ≡ true → Clears removes old new
  Clears-next old new clears is is_leaf_new = record {
    keeps = λ d. subst (λ (u : Tree). Keeps d old u) (sym is) (Keeps-trans d (clears.keeps d) (lawful d).keeps);
    leaf = is_leaf_new;
    left = λ none.
        let same = clears.left none in
        is ∙ kept ((lawful forwards).exact refl (ap removes same ∙ none)) ∙ same;
  }

-- ---- forming

-- a leaf becomes another by the action
module _ (t : Tree) (l formed : Leaf) (is : t ≡ leaf l) where
  pub Clears-formed : (r : Result PassAction AllocError) →
      ((d : Direction) → IfOk r (ObeysLaw is_formed_away true d (leaf l) (leaf l))) →
      IfOk r (λ action. after action (leaf l) ≡ leaf formed) → IfOk r (λ action. Clears is_formed_away t (after action t))
  Clears-formed (Ok action) lawful formed_is =
      subst (λ (u : Tree). Clears is_formed_away u (after action u)) (sym is)
      (Clears-next is_formed_away (leaf l) (leaf l) action lawful (leaf l) (after action (leaf l))
      (Clears-refl is_formed_away (leaf l) refl) refl (ap is_leaf formed_is))
  Clears-formed (Err e) lawful formed_is = tt

-- ---- clearing

-- a node with this shape becomes `Empty`
pub Clears-empty : (t : Tree) → is_leaf t ≡ true → is_emptied_away t ≡ true → IsPart t → Clears is_emptied_away t (leaf empty)
Clears-empty t is some part = record {
  keeps = λ d. emptied_keeps d t (leaf_is_no_cat t is) some part;
  leaf = refl;
  left = λ none. absurd (false≢true (sym none ∙ some));
}

-- ---- one character

one_occurs : (t : Tree) → matches_exactly_one_char t ≡ true → IsPart t → MayBeCharacterLoopBody t
one_occurs t one part n = IsAllowed-one_character part.0 n t part.1 one part.2

-- ---- all three steps

module _ (old simplified formed new : Tree) (part : IsPart old) (first : Clears is_simplified_away old simplified)
    (second : Clears is_formed_away simplified formed) (third : Clears is_emptied_away formed new) where
  pub was_one : matches_exactly_one_char simplified ≡ true → MayBeCharacterLoopBody new
  was_one one n =
      let at_first = one_occurs simplified one (IsPart-kept forwards (first.keeps forwards) part) n in
      (third.keeps forwards).occurs n one_character ((second.keeps forwards).occurs n one_character at_first)

  -- a leaf in normal form is unchanged
  same : IsNormal old → new ≡ old
  same normal =
      let one = first.left (LacksShape-here is_simplified_away old normal.simplified) in
      let two = second.left (ap is_formed_away one ∙ LacksShape-here is_formed_away old normal.formed) ∙ one in
      third.left (ap is_emptied_away two ∙ LacksShape-here is_emptied_away old normal.emptied) ∙ two

  pub leaf_finished : (d : Direction) (facts : PartFacts) → is_simplified_away simplified ≡ false → is_formed_away new ≡ false →
      is_emptied_away new ≡ false → HasFacts facts new → facts.was_one_character ≡ matches_exactly_one_char simplified →
      Normalized d old new (Ok facts)
  leaf_finished d facts no_bracket no_literal no_empty has was = record {
    keeps = Keeps-trans d (first.keeps d) (Keeps-trans d (second.keeps d) (third.keeps d));
    goal = cleared_goal old simplified new first same;
    normal = leaf_normal new third.leaf
        (LacksShape-here is_simplified_away new
        ((third.keeps d).brackets ((second.keeps d).brackets (leaf_lacks is_simplified_away simplified first.leaf no_bracket))))
        no_literal no_empty;
    facts = has;
    left = λ normal. same normal;
    still_one = λ normal one.
        let at_first = first.left (LacksShape-here is_simplified_away old normal.simplified) in
        ap matches_exactly_one_char (same normal ∙ sym at_first) ∙ (sym was ∙ one);
  }

-- after an error
module _ (d : Direction) (old simplified : Tree) (first : Clears is_simplified_away old simplified) where
  at_first : IsNormal old → simplified ≡ old
  at_first normal = first.left (LacksShape-here is_simplified_away old normal.simplified)

  pub simplified_error : (response : Result PartFacts AllocError) → IsErr response → Normalized d old simplified response
  simplified_error (Ok facts) err = absurd (false≢true err)
  simplified_error (Err e) err = record {
    keeps = first.keeps d;
    goal = cleared_goal old simplified simplified first at_first;
    normal = tt;
    facts = tt;
    left = at_first;
    still_one = λ normal. tt;
  }

  pub formed_error : (formed : Tree) → Clears is_formed_away simplified formed → (response : Result PartFacts AllocError) → IsErr response →
      Normalized d old formed response
  formed_error formed second (Ok facts) err = absurd (false≢true err)
  formed_error formed second (Err e) err = record {
    keeps = Keeps-trans d (first.keeps d) (second.keeps d);
    goal = cleared_goal old simplified formed first at_second;
    normal = tt;
    facts = tt;
    left = at_second;
    still_one = λ normal. tt;
  }
    where
      at_second : IsNormal old → formed ≡ old
      at_second normal =
          second.left (ap is_formed_away (at_first normal) ∙ LacksShape-here is_formed_away old normal.formed) ∙ at_first normal
