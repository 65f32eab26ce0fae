-- A `Goal` part is kept.
use Rattle.std.proofs.Common.{◌≡◌, Bool, true, false, ◌||◌, inl, inr, refl, sym, ap, ◌∙◌, subst}
use Rattle.std.proofs.Math.Bool.{or-false}
use Rattle.std.proofs.lemmas.Bool.{cases_Bool, or_left, or_right, true≢false, false≢true}
use Rattle.regress_tree.specs.Copies.{is_leaf}
use Rattle.regress_tree.specs.NodeTests.{is_goal}
use Rattle.regress_tree.specs.NormalForm.{IsNormal}
use Rattle.regress_tree.specs.Shapes.{some_part, is_cat, is_simplified_away}
use Rattle.regress_tree.specs.Tree.{Wrapper, Tree, Trees, leaf, goal, cat, alt, wrapped, no_trees, more_trees, append_trees}
use Rattle.regress_tree.proofs.lemmas.Goal.{goal-is}
use Rattle.regress_tree.proofs.lemmas.Measures.{some_part-append}
use Rattle.regress_tree.proofs.lemmas.TreeContexts.{TreeContext, among, left_of, right_of, inside_of, put}
use Rattle.regress_rewrite.specs.Splice.{parts_of, spliced}
use Rattle.regress_normalize.specs.Normalized.{HasGoal}
use Rattle.regress_normalize.specs.Steps.{Clears}
use Rattle.regress_normalize.proofs.NormalLemmas.{IsNormal-leaf, nothing_normal}

-- ---- the trees that have it

pub cat_goal : (ts : Trees) → HasGoal (cat ts) → some_part is_goal ts ≡ true
cat_goal ts (inl has) = has
cat_goal ts (inr is) = absurd (true≢false (ap is_cat is))

pub alt_goal : (left right : Tree) → HasGoal (alt left right) → ⊥
alt_goal left right (inl has) = false≢true has
alt_goal left right (inr is) = false≢true (ap is_leaf is)

pub wrapped_goal : (w : Wrapper) (body : Tree) → HasGoal (wrapped w body) → ⊥
wrapped_goal w body (inl has) = false≢true has
wrapped_goal w body (inr is) = false≢true (ap is_leaf is)

-- the part of a `Cat` with one part
pub only_goal : (part : Tree) → HasGoal (cat (more_trees part no_trees)) → HasGoal part
only_goal (leaf l) has = inl (cat_goal _ has)
only_goal (cat parts) has = absurd (false≢true (cat_goal _ has))
only_goal (alt left right) has = absurd (false≢true (cat_goal _ has))
only_goal (wrapped w body) has = absurd (false≢true (cat_goal _ has))

-- ---- a `Goal` is in normal form, so it is unchanged

is_normal : (t : Tree) → is_goal t ≡ true → IsNormal t
is_normal t is = subst (λ (u : Tree). IsNormal u) (sym (goal-is t is)) (IsNormal-leaf goal refl refl refl)

-- a `Goal` as a part of another tree
module _ (t u : Tree) (left : IsNormal t → u ≡ t) where
  among_goal : (before after : Trees) → some_part is_goal (append_trees before (more_trees t after)) ≡ true →
      some_part is_goal (append_trees before (more_trees u after)) ≡ true
  among_goal before after has = elim (cases_Bool (is_goal t)) [
    | inl is ↦
        subst (λ (x : Tree). some_part is_goal (append_trees before (more_trees x after)) ≡ true) (sym (left (is_normal t is))) has
    | inr is_not ↦
        some_part-append is_goal before (more_trees u after)
        ∙ one_more (some_part is_goal before) (is_goal u) (some_part is_goal after)
        (ap (λ b. some_part is_goal before || (b || some_part is_goal after)) (sym is_not)
        ∙ sym (some_part-append is_goal before (more_trees t after))
        ∙ has)
  ]
    where
      one_more : (a b c : Bool) → (a || c) ≡ true → (a || (b || c)) ≡ true
      one_more true b c some = refl
      one_more false b c some = or_right b c some

  pub put_goal : (p : TreeContext) → HasGoal (put p t) → HasGoal (put p u)
  put_goal (among before after) has = inl (among_goal before after (cat_goal _ has))
  put_goal (left_of right) has = absurd (alt_goal t right has)
  put_goal (right_of left_side) has = absurd (alt_goal left_side t has)
  put_goal (inside_of w) has = absurd (wrapped_goal w t has)

-- a `Goal` as the whole tree
leaf_goal : (t simplified : Tree) → Clears is_simplified_away t simplified → HasGoal t → IsNormal t
leaf_goal t simplified first (inr is) = subst (λ (u : Tree). IsNormal u) (sym is) nothing_normal
leaf_goal (leaf l) simplified first (inl has) = is_normal (leaf l) (sym (or-false (is_goal (leaf l))) ∙ has)
leaf_goal (cat parts) simplified first (inl has) = absurd (false≢true (sym (ap is_leaf (first.left refl)) ∙ first.leaf))
leaf_goal (alt left right) simplified first (inl has) = absurd (false≢true has)
leaf_goal (wrapped w body) simplified first (inl has) = absurd (false≢true has)

pub cleared_goal : (t simplified new : Tree) → Clears is_simplified_away t simplified → (IsNormal t → new ≡ t) → HasGoal t → HasGoal new
cleared_goal t simplified new first left has =
    subst (λ (u : Tree). HasGoal u) (sym (left (leaf_goal t simplified first has))) has

-- ---- in a list that is spliced

own_goal : (t : Tree) → is_goal t ≡ true → some_part is_goal (parts_of t) ≡ true
own_goal (leaf l) is = or_left _ _ is
own_goal (cat parts) is = absurd (false≢true is)
own_goal (alt left right) is = absurd (false≢true is)
own_goal (wrapped w body) is = absurd (false≢true is)

pub spliced_goal : (ts : Trees) → some_part is_goal ts ≡ true → some_part is_goal (spliced ts) ≡ true
spliced_goal no_trees has = has
spliced_goal (more_trees t ts) has =
    some_part-append is_goal (parts_of t) (spliced ts) ∙ either (is_goal t) refl (spliced_goal ts)
  where
    either : (b : Bool) → is_goal t ≡ b → (some_part is_goal ts ≡ true → some_part is_goal (spliced ts) ≡ true) →
        (some_part is_goal (parts_of t) || some_part is_goal (spliced ts)) ≡ true
    either true is later = or_left _ _ (own_goal t is)
    either false is later = or_right _ _ (later (ap (λ b. b || some_part is_goal ts) (sym is) ∙ has))
