-- What each step of the traversal keeps.
use Rattle.std.proofs.Common.{◌≡◌, ℕ, ◌+◌, ◌<◌, List, [], ◌∷◌, length, take, get_or, set, Result, Ok, Err, refl, sym, ap, subst, ◌∙◌, arith}
use Rattle.std.specs.Prelude.{IfOk, OnOk}
use Rattle.std.specs.Result.{IsErr}
use Rattle.std.specs.declared.alloc.AllocError.{AllocError}
use Rattle.std.proofs.lemmas.Bool.{false≢true, true≢false}
use Rattle.std.proofs.lemmas.List.{take_more_set}
use Rattle.regress_tree.specs.declared.ir.node.Node.{Node}
use Rattle.regress_tree.specs.NormalForm.{IsNormal}
use Rattle.regress_tree.specs.Reading.{Direction}
use Rattle.regress_tree.specs.Shapes.{is_flattened_away}
use Rattle.regress_tree.specs.Spine.{Shifted, reattach}
use Rattle.regress_tree.specs.Tree.{Wrapper, Tree, Trees, leaf, cat, alt, wrapped, no_trees, more_trees, append_trees, tree, trees}
use Rattle.regress_tree.specs.Units.{units}
use Rattle.regress_tree.proofs.lemmas.Measures.{LacksShape-here}
use Rattle.regress_tree.proofs.lemmas.TreeContexts.{TreeContext, put, direction_at, right_of, inside_of, left_of}
use Rattle.regress_tree.proofs.lemmas.Lists.{trees-append}
use Rattle.regress_rewrite.specs.Law.{IsPart}
use Rattle.regress_rewrite.proofs.lemmas.Keeps.{Keeps-trans, Keeps-put, Keeps-one_part, IsPart-kept}
use Rattle.regress_rewrite.proofs.lemmas.Parts.{context, list_set, list_at}
use Rattle.regress_rewrite.proofs.lemmas.Spine.{IsPart-reattach}
use Rattle.regress_normalize.specs.declared.facts.PartFacts.{PartFacts}
use Rattle.regress_normalize.specs.Normalized.{Finished, Normalized, IsCleanAround, ListIsNormal, IsWrapperOf, IsAltOf}
use Rattle.regress_normalize.specs.PartFacts.{HasFacts, IsStillOneCharacter}
use Rattle.regress_normalize.specs.Steps.{Denotes, IsAltOnto}
use Rattle.regress_normalize.proofs.GoalLemmas.{only_goal, put_goal}
use Rattle.regress_normalize.proofs.NormalLemmas.{IsNormal-part, IsNormal-reattach}
use Rattle.regress_normalize.proofs.PackedLemmas.{ListIsNormal-append}

-- ---- steps in sequence

pub Denotes-then : (d : Direction) (t u v : Tree) → Denotes d t u → Denotes d u v → Denotes d t v
Denotes-then d t u v first second = record {
  keeps = Keeps-trans d first.keeps second.keeps;
  goal = λ has_goal. second.goal (first.goal has_goal);
  left = λ normal.
      let same = first.left normal in
      second.left (subst (λ (x : Tree). IsNormal x) (sym same) normal) ∙ same;
}

pub Denotes-put : (p : TreeContext) (d : Direction) (t u : Tree) → Denotes (direction_at p d) t u → Denotes d (put p t) (put p u)
Denotes-put p d t u occurs = record {
  keeps = Keeps-put p d occurs.keeps;
  goal = put_goal t u occurs.left p;
  left = λ normal. ap (put p) (occurs.left (IsNormal-part p t normal));
}

pub Denotes-reattach : (d : Direction) (above t u : Tree) → Denotes d t u → Denotes d (reattach above t) (reattach above u)
Denotes-reattach d (leaf l) t u occurs = occurs
Denotes-reattach d (cat parts) t u occurs = occurs
Denotes-reattach d (alt left above) t u occurs =
    Denotes-reattach d above (alt left t) (alt left u) (Denotes-put (right_of left) d t u occurs)
Denotes-reattach d (wrapped w body) t u occurs = occurs

pub Denotes-normalized : (d : Direction) (t u : Tree) (response : Result PartFacts AllocError) → Normalized d t u response → Denotes d t u
Denotes-normalized d t u response normalized = record { keeps = normalized.keeps; goal = normalized.goal; left = normalized.left }

-- a statement about a step, transferred to equal trees
pub Denotes-as : (d : Direction) {t u v w : Tree} → t ≡ v → u ≡ w → Denotes d t u → Denotes d v w
Denotes-as d t_is u_is occurs = rw (t_is, u_is) at occurs

pub IsPart-occurs : (d : Direction) (t u : Tree) → Denotes d t u → IsPart t → IsPart u
IsPart-occurs d t u occurs part = IsPart-kept d occurs.keeps part

pub Normalized-after : (d : Direction) (t u v : Tree) (response : Result PartFacts AllocError) → Denotes d t u → Normalized d u v response →
    Normalized d t v response
Normalized-after d t u v response first second =
    let both = Denotes-then d t u v first (Denotes-normalized d u v response second) in
    record {
      keeps = both.keeps;
      goal = both.goal;
      normal = second.normal;
      facts = second.facts;
      left = both.left;
      still_one = λ normal. second.still_one (subst (λ (x : Tree). IsNormal x) (sym (first.left normal)) normal);
    }

-- two steps, where the second one leaves the tree unchanged under a condition that follows from the normal form
pub Normalized-finished : (clean : Type 0) (d : Direction) (t u v : Tree) (response : Result PartFacts AllocError) → Denotes d t u →
    Finished clean d u v response → (IsNormal t → clean) → Normalized d t v response
Normalized-finished clean d t u v response first second is_clean = record {
  keeps = Keeps-trans d first.keeps second.keeps;
  goal = λ has_goal. second.goal (first.goal has_goal);
  normal = second.normal;
  facts = second.facts;
  left = λ normal. second.left (is_clean normal) ∙ first.left normal;
  still_one = λ normal. second.still_one (is_clean normal);
}

-- after an error only what is always kept holds
pub Normalized-error : (d : Direction) (t u : Tree) (response : Result PartFacts AllocError) → IsErr response → Denotes d t u →
    Normalized d t u response
Normalized-error d t u (Ok facts) err occurs = absurd (false≢true err)
Normalized-error d t u (Err e) err occurs =
    record { keeps = occurs.keeps; goal = occurs.goal; normal = tt; facts = tt; left = occurs.left; still_one = λ normal. tt }

-- the same with one more condition
pub Finished-error : (known : Type 0) (d : Direction) (t u : Tree) (response : Result PartFacts AllocError) → IsErr response → Denotes d t u →
    Finished (IsNormal t × known) d t u response
Finished-error known d t u (Ok facts) err occurs = absurd (false≢true err)
Finished-error known d t u (Err e) err occurs =
    record { keeps = occurs.keeps; goal = occurs.goal; normal = tt; facts = tt; left = λ clean. occurs.left clean.0; still_one = λ clean. tt }

-- a part may replace a `Cat` with one part
pub Denotes-only_part : (d : Direction) (t part : Tree) → t ≡ cat (more_trees part no_trees) → Denotes d t part
Denotes-only_part d t part is = subst (λ (u : Tree). Denotes d u part) (sym is) (record {
  keeps = Keeps-one_part d part;
  goal = only_goal part;
  left = λ normal. absurd (true≢false (LacksShape-here is_flattened_away (cat (more_trees part no_trees)) normal.flattened));
})

-- the body of a node
module _ (d : Direction) (w : Wrapper) (t u : Tree) (response : Result PartFacts AllocError)
    (here : Normalized (direction_at (inside_of w) d) t u response) where
  pub occurs_inside : Denotes d (wrapped w t) (wrapped w u)
  occurs_inside = Denotes-put (inside_of w) d t u (Denotes-normalized (direction_at (inside_of w) d) t u response here)

  pub wraps : IfOk response (λ facts. IsWrapperOf facts (wrapped w u))
  wraps = by response here.normal here.facts
    where
      by : (a : Result PartFacts AllocError) → OnOk a (IsNormal u) → IfOk a (λ facts. HasFacts facts u) →
          IfOk a (λ facts. IsWrapperOf facts (wrapped w u))
      by (Ok facts) normal has = record { wrapper = w; body = u; is = refl; normal = normal; has = has }
      by (Err e) normal has = tt

  pub wraps_clean : IsNormal (wrapped w t) → IfOk response (λ facts. IsCleanAround facts (wrapped w u))
  wraps_clean whole =
      let inner = IsNormal-part (inside_of w) t whole in
      by response (subst (λ (x : Tree). IsNormal (wrapped w x)) (sym (here.left inner)) whole) (here.still_one inner)
    where
      by : (a : Result PartFacts AllocError) → IsNormal (wrapped w u) → IfOk a (λ facts. IsStillOneCharacter facts u) →
          IfOk a (λ facts. IsCleanAround facts (wrapped w u))
      by (Ok facts) normal still_one = (normal, still_one)
      by (Err e) normal still_one = tt

-- ---- alternatives

-- the size of the `Alt`s above and of their left sides
abbrev pub units_above : Tree → ℕ
units_above (leaf l) = 0
units_above (cat parts) = 0
units_above (alt left above) = 1 + units left + units_above above
units_above (wrapped w body) = 0

-- the size of an `Alt` without its right side
abbrev pub units_left : Tree → ℕ
units_left (leaf l) = 0
units_left (cat parts) = 0
units_left (alt left right) = 1 + units left
units_left (wrapped w body) = 0

pub units-reattach : (above t : Tree) → units (reattach above t) ≡ units_above above + units t
units-reattach (leaf l) t = omega arith
units-reattach (cat parts) t = omega arith
units-reattach (alt left above) t = omega (arith, units-reattach above (alt left t))
units-reattach (wrapped w body) t = omega arith

-- ascending: the next `Alt`
module _ (above node rest here : Tree) (shifted : Shifted above node rest here) where
  pub reattach_up : reattach rest here ≡ reattach above node
  reattach_up = ap (reattach rest) shifted.is ∙ sym (ap (λ (t : Tree). reattach t node) shifted.was)

  pub units_up : units_left here + units_above rest ≡ units_above above
  units_up = omega (arith, ap units_left shifted.is, ap units_above shifted.was)

  pub onto_up : (facts : PartFacts) → IsNormal node → HasFacts facts node → IsAltOnto facts here
  onto_up facts normal has = record { left = shifted.left; right = node; is = shifted.is; normal = normal; has = has }

  pub occurs_up : (d : Direction) (old made : Tree) (response : Result PartFacts AllocError) → Denotes d old (reattach above node) →
      Normalized d here made response → Denotes d old (reattach rest made)
  occurs_up d old made response so_far next =
      Denotes-then d old (reattach rest here) (reattach rest made) (subst (λ (t : Tree). Denotes d old t) (sym reattach_up) so_far)
      (Denotes-reattach d rest here made (Denotes-normalized d here made response next))

  pub still_one_up : (d : Direction) (old made : Tree) (response : PartFacts) → Denotes d old (reattach above node) →
      Normalized d here made (Ok response) → IsNormal old → IsStillOneCharacter response made
  still_one_up d old made response so_far next normal =
      let whole = subst (λ (t : Tree). IsNormal t) (sym (reattach_up ∙ so_far.left normal)) normal in
      next.still_one (IsNormal-reattach rest here whole)

  pub IsPart_up : (d : Direction) (old : Tree) → Denotes d old (reattach above node) → IsPart old → IsPart here
  IsPart_up d old so_far part =
      IsPart-reattach rest here (subst (λ (t : Tree). IsPart t) (sym reattach_up) (IsPart-occurs d old (reattach above node) so_far part))

-- the left side of an `Alt` whose right side is in normal form
module _ (d : Direction) (t left made right : Tree) (is : t ≡ alt left right) (response : Result PartFacts AllocError)
    (here : Normalized d left made response) where
  pub occurs_left : Denotes d t (alt made right)
  occurs_left = subst (λ (u : Tree). Denotes d u (alt made right)) (sym is)
      (Denotes-put (left_of right) d left made (Denotes-normalized d left made response here))

pub both_sides : (t left right : Tree) (facts left_facts : PartFacts) → t ≡ alt left right → IsAltOnto facts t → (made : Tree) →
    IsNormal made → HasFacts left_facts made → IsAltOf left_facts facts (alt made right)
both_sides t left right facts left_facts is onto made normal has =
    let same : alt onto.left onto.right ≡ alt left right = sym onto.is ∙ is in
    let right_is : onto.right ≡ right = cc in
    record {
      left = made;
      right = right;
      is = refl;
      left_normal = normal;
      left_has = has;
      right_normal = subst (λ (u : Tree). IsNormal u) right_is onto.normal;
      right_has = subst (λ (u : Tree). HasFacts facts u) right_is onto.has;
    }

-- ---- parts

module _ (now : List Node) (i : ℕ) (in_list : i < length now) (new : Node) where
  -- the parts so far, with the current one
  pub taken : trees (take (i + 1) (set now i new)) ≡ append_trees (trees (take i now)) (more_trees (tree new) no_trees)
  taken = ap trees (take_more_set now i new in_list) ∙ trees-append (take i now) (new ∷ [])

  pub more_normal : ListIsNormal (trees (take i now)) → IsNormal (tree new) → ListIsNormal (trees (take (i + 1) (set now i new)))
  more_normal before here = subst (λ (ts : Trees). ListIsNormal ts) (sym taken) (ListIsNormal-append _ (more_trees (tree new) no_trees) before (here, tt))

  pub Denotes-part : (d : Direction) (initial : List Node) (old : Node) (at : old ≡ get_or now i old) (response : Result PartFacts AllocError) →
      Denotes d (cat (trees initial)) (cat (trees now)) → Normalized d (tree old) (tree new) response →
      Denotes d (cat (trees initial)) (cat (trees (set now i new)))
  Denotes-part d initial old at response so_far here =
      let there = Denotes-put (context now i in_list) d (tree old) (tree new) (Denotes-normalized d (tree old) (tree new) response here) in
      Denotes-then d _ (cat (trees now)) _ so_far (rw (list_at now i in_list old at, list_set now i in_list new) there)
