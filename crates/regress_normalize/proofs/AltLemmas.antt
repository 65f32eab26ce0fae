-- An `Alt` whose sides are in normal form.
use Rattle.std.proofs.Common.{◌≡◌, Bool, true, false, not, ◌&&◌, ◌||◌, ◌⊎◌, inl, inr, Result, Ok, Err, refl, sym, ap, ap₂, subst, ◌∙◌}
use Rattle.std.specs.Prelude.{IfOk, OnOk}
use Rattle.std.specs.declared.alloc.AllocError.{AllocError}
use Rattle.std.proofs.lemmas.Bool.{true≢false, false≢true, and_from, or_left, or_right}
use Rattle.regress_tree.specs.NodeTests.{is_empty, match_always_fails}
use Rattle.regress_tree.specs.NormalForm.{IsNormal}
use Rattle.regress_tree.specs.Reading.{Direction}
use Rattle.regress_tree.specs.Shapes.{is_cat, is_emptied_away, is_failed_away, has_group}
use Rattle.regress_tree.specs.Tree.{Tree, leaf, empty, alt}
use Rattle.regress_tree.proofs.lemmas.Measures.{LacksShape-here}
use Rattle.regress_rewrite.specs.Law.{IsPart}
use Rattle.regress_rewrite.proofs.lemmas.Keeps.{Keeps-refl}
use Rattle.regress_rewrite.proofs.lemmas.Emptying.{emptied_keeps}
use Rattle.regress_rewrite.proofs.lemmas.Alternatives.{left_alone, right_alone}
use Rattle.regress_normalize.specs.declared.facts.PartFacts.{PartFacts}
use Rattle.regress_normalize.specs.Normalized.{HasGoal, Normalized, IsAltOf}
use Rattle.regress_normalize.specs.PartFacts.{HasFacts, IsStillOneCharacter}
use Rattle.regress_normalize.proofs.GoalLemmas.{alt_goal}
use Rattle.regress_normalize.proofs.NormalLemmas.{IsNormal-alt, empty_normal}

module _ (left right : Tree) where
  -- an `Alt` without groups and with a side that fails is not in normal form
  fails_away : (match_always_fails left || match_always_fails right) ≡ true → has_group left ≡ false → has_group right ≡ false →
      is_failed_away (alt left right) ≡ true
  fails_away fails no_left no_right = and_from _ _ fails (ap not (ap₂ ◌||◌ no_left no_right))

  stays : ((match_always_fails left ≡ false) × (match_always_fails right ≡ false)) ⊎ ((has_group left || has_group right) ≡ true) →
      is_failed_away (alt left right) ≡ false
  stays (inl neither) = ap (λ b. b && not (has_group left || has_group right)) (ap₂ ◌||◌ neither.0 neither.1)
  stays (inr grouped) = ap (λ b. (match_always_fails left || match_always_fails right) && not b) grouped ∙ by
      (match_always_fails left || match_always_fails right)
    where
      by : (b : Bool) → (b && false) ≡ false
      by true = refl
      by false = refl

module _ (d : Direction) (t : Tree) (left_facts right_facts : PartFacts) (sides : IsAltOf left_facts right_facts t) (part : IsPart t) where
  abbrev first : Tree
  first = sides.left

  abbrev second : Tree
  second = sides.right

  whole_part : IsPart (alt first second)
  whole_part = subst (λ (u : Tree). IsPart u) sides.is part

  -- an `Alt` in normal form is not changed
  other : {P : Type 0} (shape : Tree → Bool) → shape (alt first second) ≡ true → (IsNormal t → shape t ≡ false) → IsNormal t → P
  other shape some lacks normal = absurd (false≢true (sym (lacks normal) ∙ ap shape sides.is ∙ some))

  no_goal : {P : Type 0} → HasGoal t → P
  no_goal has = absurd (alt_goal first second (subst (λ (u : Tree). HasGoal u) sides.is has))

  pub sides_empty : (facts : PartFacts) → (is_empty first && is_empty second) ≡ true → HasFacts facts (leaf empty) →
      Normalized d t (leaf empty) (Ok facts)
  sides_empty facts empties has = record {
    keeps = emptied_keeps d t (ap is_cat sides.is) (ap is_emptied_away sides.is ∙ empties) part;
    goal = λ has_goal. no_goal has_goal;
    normal = empty_normal;
    facts = has;
    left = λ normal. other is_emptied_away empties (λ n. LacksShape-here is_emptied_away t n.emptied) normal;
    still_one = λ normal. other is_emptied_away empties (λ n. LacksShape-here is_emptied_away t n.emptied) normal;
  }

  module _ (new : Tree) (facts : PartFacts) (no_left : left_facts.has_group ≡ false) (no_right : right_facts.has_group ≡ false) where
    left_free : has_group first ≡ false
    left_free = sym sides.left_has.has_group ∙ no_left

    right_free : has_group second ≡ false
    right_free = sym sides.right_has.has_group ∙ no_right

    failed : {P : Type 0} → (match_always_fails first || match_always_fails second) ≡ true → IsNormal t → P
    failed fails normal =
        other is_failed_away (fails_away first second fails left_free right_free) (λ n. LacksShape-here is_failed_away t n.failed) normal

    pub right_side : left_facts.always_fails ≡ true → new ≡ second → HasFacts facts second → Normalized d t new (Ok facts)
    right_side fails is has =
        let left_fails = sym sides.left_has.always_fails ∙ fails in
        record {
          keeps = rw (sides.is, is) (right_alone d first second whole_part left_fails left_free);
          goal = λ has_goal. no_goal has_goal;
          normal = subst (λ (u : Tree). IsNormal u) (sym is) sides.right_normal;
          facts = subst (λ (u : Tree). HasFacts facts u) (sym is) has;
          left = λ normal. failed (or_left _ _ left_fails) normal;
          still_one = λ normal. failed (or_left _ _ left_fails) normal;
        }

    pub left_side : right_facts.always_fails ≡ true → new ≡ first → HasFacts facts first → Normalized d t new (Ok facts)
    left_side fails is has =
        let right_fails = sym sides.right_has.always_fails ∙ fails in
        record {
          keeps = rw (sides.is, is) (left_alone d first second whole_part right_fails right_free);
          goal = λ has_goal. no_goal has_goal;
          normal = subst (λ (u : Tree). IsNormal u) (sym is) sides.left_normal;
          facts = subst (λ (u : Tree). HasFacts facts u) (sym is) has;
          left = λ normal. failed (or_right _ _ right_fails) normal;
          still_one = λ normal. failed (or_right _ _ right_fails) normal;
        }

  -- an `Alt` without a shape to remove is unchanged
  pub alt_stays : (response : Result PartFacts AllocError) → (is_empty first && is_empty second) ≡ false →
      ((left_facts.always_fails ≡ false) × (right_facts.always_fails ≡ false)) ⊎ ((left_facts.has_group || right_facts.has_group) ≡ true) →
      IfOk response (λ facts. HasFacts facts (alt first second)) → IfOk response (λ facts. facts.was_one_character ≡ false) →
      Normalized d t t response
  alt_stays response no_empties may has many = record {
    keeps = Keeps-refl d t;
    goal = λ has_goal. has_goal;
    normal = by response;
    facts = subst (λ (u : Tree). IfOk response (λ facts. HasFacts facts u)) (sym sides.is) has;
    left = λ normal. refl;
    still_one = λ normal. still_one response many;
  }
    where
      still_one : (a : Result PartFacts AllocError) → IfOk a (λ facts. facts.was_one_character ≡ false) → IfOk a (λ facts. IsStillOneCharacter facts t)
      still_one (Ok facts) is = λ one. absurd (true≢false (sym one ∙ is))
      still_one (Err e) is = tt

      may' : (((left_facts.always_fails ≡ false) × (right_facts.always_fails ≡ false)) ⊎ ((left_facts.has_group || right_facts.has_group) ≡ true)) →
          ((match_always_fails first ≡ false) × (match_always_fails second ≡ false)) ⊎ ((has_group first || has_group second) ≡ true)
      may' (inl neither) = inl (sym sides.left_has.always_fails ∙ neither.0, sym sides.right_has.always_fails ∙ neither.1)
      may' (inr grouped) = inr (sym (ap₂ ◌||◌ sides.left_has.has_group sides.right_has.has_group) ∙ grouped)

      by : (a : Result PartFacts AllocError) → OnOk a (IsNormal t)
      by (Ok facts) = subst (λ (u : Tree). IsNormal u) (sym sides.is)
          (IsNormal-alt first second sides.left_normal sides.right_normal no_empties (stays first second (may' may)))
      by (Err e) = tt
