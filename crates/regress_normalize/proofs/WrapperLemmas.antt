-- What a node becomes whose body is in normal form, and why.
use Rattle.std.proofs.Common.{◌≡◌, ◌⊎◌, ℕ, zero, suc, inl, inr, Bool, true, false, not, ◌&&◌, ◌||◌, [], List, nat_le, Result, Ok, Err, refl, sym, ap, ap₂, subst, ◌∙◌}
use Rattle.std.specs.Prelude.{IsErr}
use Rattle.std.specs.declared.alloc.AllocError.{AllocError}
use Rattle.std.proofs.lemmas.Bool.{true≢false, false≢true, and_from}
use Rattle.regress_tree.specs.declared.ir.node.Node.{Node}
use Rattle.regress_base.specs.declared.types.Quantifier.{Quantifier}
use Rattle.regress_tree.specs.NodeTests.{matches_exactly_one_char}
use Rattle.regress_tree.specs.NormalForm.{IsNormal}
use Rattle.regress_tree.specs.Reading.{Direction}
use Rattle.regress_tree.specs.Shapes.{is_unrolled_away, is_promoted_away, is_emptied_away, is_failed_away, fails_by_part, has_group, has_loop, has_string_set, is_cat, is_within, max_body_charge, max_body_nesting, may_unroll, may_unroll_by, is_zero}
use Rattle.regress_tree.specs.Tree.{Tree, Trees, leaf, empty, byte_set, cat, alt, wrapped, Wrapper, loop, loop_one, no_trees, more_trees, append_trees, copies, trees}
use Rattle.regress_tree.specs.Units.{charge}
use Rattle.regress_tree.specs.Measures.{nesting}
use Rattle.regress_tree.specs.WellFormed.{IsAllowed, inside, one_character}
use Rattle.regress_tree.proofs.lemmas.Measures.{LacksShape-here}
use Rattle.regress_tree.proofs.lemmas.TreeContexts.{among}
use Rattle.regress_tree.proofs.lemmas.Positions.{IsAllowed-one_character}
use Rattle.regress_rewrite.specs.Law.{IsPart, Keeps}
use Rattle.regress_rewrite.specs.Unroll.{further_iterations, unrolled}
use Rattle.regress_rewrite.proofs.lemmas.Emptying.{emptied_keeps}
use Rattle.regress_rewrite.proofs.lemmas.Failing.{fails_keeps}
use Rattle.regress_rewrite.proofs.lemmas.Keeps.{Keeps-refl, Keeps-trans, Keeps-put, IsPart-part, IsPart-kept}
use Rattle.regress_rewrite.proofs.lemmas.Promotion.{promoted_keeps}
use Rattle.regress_rewrite.proofs.lemmas.Unrolling.{MayUnroll-from, unrolled_keeps, unrolled-without}
use Rattle.regress_normalize.specs.Normalized.{HasGoal, Finished, Normalized, IsCleanAround, IsWrapperOf, ListIsNormal}
use Rattle.regress_normalize.specs.PartFacts.{HasFacts, HasListFacts}
use Rattle.regress_normalize.specs.Wrapped.{IsLoopOf, in_form, TakesForm, IsPlanned, HasFinishedParts}
use Rattle.regress_normalize.specs.declared.facts.PartFacts.{PartFacts}
use Rattle.regress_normalize.specs.declared.facts.ListFacts.{ListFacts}
use Rattle.regress_normalize.specs.declared.wrapper.LoopForm.{LoopForm}
use Rattle.regress_normalize.specs.declared.wrapper.LoopForm.TheVariants.{OneCharacter, Empty, AlwaysFails, Stays}
use Rattle.regress_normalize.specs.declared.wrapper.LoopPlan.{LoopPlan}
use Rattle.regress_normalize.proofs.GoalLemmas.{wrapped_goal}
use Rattle.regress_normalize.proofs.NormalLemmas.{empty_normal, nothing_normal}
use Rattle.regress_normalize.proofs.PackedLemmas.{ListIsNormal-append}

-- ---- finished nodes

-- the shapes that a node around a body can have
pub record LacksAtRoot (t : Tree) : Type 0 where
  pub unrolled : is_unrolled_away t ≡ false
  pub promoted : is_promoted_away t ≡ false
  pub emptied : is_emptied_away t ≡ false
  pub failed : is_failed_away t ≡ false

pub IsNormal-wrapped : (w : Wrapper) (body : Tree) → IsNormal body → LacksAtRoot (wrapped w body) → IsNormal (wrapped w body)
IsNormal-wrapped w body normal lacks = record {
  simplified = normal.simplified;
  flattened = normal.flattened;
  unrolled = ap₂ ◌||◌ lacks.unrolled normal.unrolled;
  promoted = ap₂ ◌||◌ lacks.promoted normal.promoted;
  formed = normal.formed;
  emptied = ap₂ ◌||◌ lacks.emptied normal.emptied;
  failed = ap₂ ◌||◌ lacks.failed normal.failed;
}

module _ (clean : Type 0) (d : Direction) (t : Tree) (no_goal : HasGoal t → ⊥) where
  -- a node that had to change
  pub finished-changed : (clean → ⊥) → (new : Tree) (facts : PartFacts) → Keeps d t new → IsNormal new → HasFacts facts new →
      Finished clean d t new (Ok facts)
  finished-changed other new facts keeps normal has = record {
    keeps = keeps;
    goal = λ has_goal. absurd (no_goal has_goal);
    normal = normal;
    facts = has;
    left = λ is_clean. absurd (other is_clean);
    still_one = λ is_clean. absurd (other is_clean);
  }

  pub finished-changed_error : (clean → ⊥) → (new : Tree) (e : AllocError) → Keeps d t new → Finished clean d t new (Err e)
  finished-changed_error other new e keeps = record {
    keeps = keeps;
    goal = λ has_goal. absurd (no_goal has_goal);
    normal = tt;
    facts = tt;
    left = λ is_clean. absurd (other is_clean);
    still_one = λ is_clean. tt;
  }

  -- a node that changes in two steps
  pub finished-then : (clean → ⊥) → (mid new : Tree) (response : Result PartFacts AllocError) → Keeps d t mid → Normalized d mid new response →
      Finished clean d t new response
  finished-then other mid new response keeps rest = record {
    keeps = Keeps-trans d keeps rest.keeps;
    goal = λ has_goal. absurd (no_goal has_goal);
    normal = rest.normal;
    facts = rest.facts;
    left = λ is_clean. absurd (other is_clean);
    still_one = λ is_clean. absurd (other is_clean);
  }

-- ---- a loop that is not unrolled

-- a node that matches only the empty text becomes `Empty`
pub emptied_finished : (clean : Type 0) (d : Direction) (w : Wrapper) (body : Tree) → (clean → IsNormal (wrapped w body)) →
    is_emptied_away (wrapped w body) ≡ true → IsPart (wrapped w body) →
    (facts : PartFacts) → HasFacts facts (leaf empty) → Finished clean d (wrapped w body) (leaf empty) (Ok facts)
emptied_finished clean d w body normal is part facts has =
    let t = wrapped w body in
    finished-changed clean d t (wrapped_goal w body)
    (λ is_clean. true≢false (sym is ∙ LacksShape-here is_emptied_away t (normal is_clean).emptied))
    (leaf empty) facts (emptied_keeps d t refl is part) empty_normal has

module _ (facts : PartFacts) (q : Quantifier) (start end : ℕ) (body : Tree) (normal : IsNormal body) (has : HasFacts facts body) where
  abbrev around : Tree
  around = wrapped (loop q start end) body

  -- the body matches one character, or did before it was formed into bytes
  abbrev IsOne : Type 0
  IsOne = (facts.was_one_character ≡ true) ⊎ (matches_exactly_one_char body ≡ true)

  one : IsOne → (n : ℕ) → IsAllowed n body inside → IsAllowed n body one_character
  one (inl was) n m = has.one was n
  one (inr is) n m = IsAllowed-one_character n n body inside is m

  not_clean : IsOne → IsCleanAround facts around → ⊥
  not_clean (inl was) clean =
      true≢false (sym (clean.1 was) ∙ LacksShape-here is_promoted_away around clean.0.promoted)
  not_clean (inr is) clean =
      true≢false (sym is ∙ LacksShape-here is_promoted_away around clean.0.promoted)

  module _ (d : Direction) (part : IsPart around) (new : PartFacts) where
    -- the loop in this form is in normal form and has the facts
    pub form_finished : (form : LoopForm) → TakesForm form facts q start end body → HasFacts new (in_form form q start end body) →
        new.was_one_character ≡ false → may_unroll q start end body ≡ false →
        Finished (IsCleanAround facts around) d around (in_form form q start end body) (Ok new)
    form_finished (OneCharacter room) takes new_has many stays =
        finished-changed (IsCleanAround facts around) d around (wrapped_goal (loop q start end) body) (not_clean takes) (wrapped (loop_one q) body) new
        (promoted_keeps d q start end body (one takes) part)
        (IsNormal-wrapped (loop_one q) body normal (record { unrolled = refl; promoted = refl; emptied = refl; failed = refl }))
        new_has
    form_finished Empty takes new_has many stays =
        emptied_finished (IsCleanAround facts around) d (loop q start end) body (λ clean. clean.0) takes part new new_has
    form_finished AlwaysFails takes new_has many stays =
        finished-changed (IsCleanAround facts around) d around (wrapped_goal (loop q start end) body)
        (λ clean. true≢false
        (sym (and_from (fails_by_part around) (not (has_group around)) takes.0 (ap not takes.1))
        ∙ LacksShape-here is_failed_away around clean.0.failed))
        (leaf (byte_set [])) new (fails_keeps d around refl takes.0 takes.1 part) nothing_normal new_has
    form_finished Stays takes new_has many stays = record {
      keeps = Keeps-refl d around;
      goal = λ has_goal. has_goal;
      normal = IsNormal-wrapped (loop q start end) body normal
          (record { unrolled = stays; promoted = takes.0; emptied = takes.1; failed = takes.2 });
      facts = new_has;
      left = λ clean. refl;
      still_one = λ clean was. absurd (true≢false (sym was ∙ many));
    }

-- the loop in this form is no `Cat`
pub form_no_cat : (form : LoopForm) (q : Quantifier) (start end : ℕ) (body : Tree) → is_cat (in_form form q start end body) ≡ false
form_no_cat (OneCharacter room) q start end body = refl
form_no_cat Empty q start end body = refl
form_no_cat AlwaysFails q start end body = refl
form_no_cat Stays q start end body = refl

-- ---- copies as parts

ListIsNormal-copies : (n : ℕ) (t : Tree) → IsNormal t → ListIsNormal (copies n t)
ListIsNormal-copies zero t normal = tt
ListIsNormal-copies (suc n) t normal = (normal, ListIsNormal-copies n t normal)

-- ---- the body of a node

abbrev body_of : Tree → Tree
body_of (leaf l) = leaf l
body_of (cat parts) = cat parts
body_of (alt left right) = alt left right
body_of (wrapped w body) = body

-- the body is in normal form and has the facts
pub record HoldsBody (facts : PartFacts) (body : Tree) : Type 0 where
  pub normal : IsNormal body
  pub has : HasFacts facts body

module _ (facts : PartFacts) (body reported : Tree) (same : body ≡ reported) where
  same_body : IsNormal reported → HasFacts facts reported → HoldsBody facts body
  same_body normal has = record {
    normal = subst (λ (t : Tree). IsNormal t) (sym same) normal;
    has = subst (λ (t : Tree). HasFacts facts t) (sym same) has;
  }

pub wrapper_holds : (facts : PartFacts) (w : Wrapper) (body : Tree) → IsWrapperOf facts (wrapped w body) → HoldsBody facts body
wrapper_holds facts w body reported = same_body facts body reported.body (ap body_of reported.is) reported.normal reported.has

module _ (facts : PartFacts) (q : Quantifier) (start end : ℕ) (body : Tree) (reported : IsLoopOf facts (wrapped (loop q start end) body)) where
  pub loop_holds : HoldsBody facts body
  loop_holds = same_body facts body reported.body (ap body_of reported.is) reported.normal reported.has

-- ---- a loop that is unrolled

-- a loop with no required iteration is not unrolled
further-stays : (q : Quantifier) (start end : ℕ) (body : Tree) → may_unroll (further_iterations q) start end body ≡ false
further-stays q start end body = by (nat_le end start)
  where
    by : (b : Bool) → ((b && (nat_le 1 0 && nat_le 0 5))
        && is_within max_body_nesting max_body_charge (has_loop body) (has_string_set body) (charge body) (nesting body)) ≡ false
    by true = refl
    by false = refl

module _ (facts : PartFacts) (q : Quantifier) (start end : ℕ) (body : Tree) (holds : HoldsBody facts body) (d : Direction)
    (part : IsPart (wrapped (loop q start end) body)) (may : may_unroll q start end body ≡ true) (list : ListFacts) where
  abbrev iterations : Trees
  iterations = copies q.min body

  keeps_unrolled : Keeps d (wrapped (loop q start end) body) (unrolled q start end body)
  keeps_unrolled = unrolled_keeps q start end body (MayUnroll-from q start end body may) d part

  -- the copies alone
  pub iterations_finished : HasListFacts list iterations → (parts : List Node) → trees parts ≡ iterations → is_zero (further_iterations q).max ≡ true →
      HasFinishedParts d (wrapped (loop q start end) body) (cat (trees parts)) (Ok list)
  iterations_finished has parts copied none = record {
    keeps = subst (λ (t : Tree). Keeps d (wrapped (loop q start end) body) t) (sym (unrolled-without q start end body parts copied none)) keeps_unrolled;
    parts = record {
      parts = iterations;
      is = ap cat copied;
      normal = ListIsNormal-copies q.min body holds.normal;
      facts = has;
    };
  }

  -- the copies, and what the loop of the further iterations becomes
  module _ (more : is_zero (further_iterations q).max ≡ false) (plan : LoopPlan) (planned : IsPlanned facts (further_iterations q) start end body plan) where
    abbrev rest : Tree
    rest = wrapped (loop (further_iterations q) start end) body

    abbrev formed : Tree
    formed = in_form plan.form (further_iterations q) start end body

    keeps_iterations : Keeps d (wrapped (loop q start end) body) (cat (append_trees iterations (more_trees rest no_trees)))
    keeps_iterations = rw more at keeps_unrolled

    rest_finished : Finished (IsCleanAround facts rest) d rest formed (Ok plan.facts)
    rest_finished =
        form_finished facts (further_iterations q) start end body holds.normal holds.has d
        (IsPart-part (among iterations no_trees) rest (IsPart-kept d keeps_iterations part)) plan.facts plan.form planned.takes planned.has planned.many
        (further-stays q start end body)

    pub unrolled_finished : HasListFacts list (append_trees iterations (more_trees formed no_trees)) → (t : Tree) →
        t ≡ cat (append_trees iterations (more_trees formed no_trees)) → HasFinishedParts d (wrapped (loop q start end) body) t (Ok list)
    unrolled_finished has t is = record {
      keeps = subst (λ (u : Tree). Keeps d (wrapped (loop q start end) body) u) (sym is)
          (Keeps-trans d keeps_iterations (Keeps-put (among iterations no_trees) d rest_finished.keeps));
      parts = record {
        parts = append_trees iterations (more_trees formed no_trees);
        is = is;
        normal = ListIsNormal-append iterations (more_trees formed no_trees) (ListIsNormal-copies q.min body holds.normal) (rest_finished.normal, tt);
        facts = has;
      };
    }

-- an error before the loop is changed
pub not_unrolled : (d : Direction) (t u : Tree) (response : Result ListFacts AllocError) → IsErr response → t ≡ u → HasFinishedParts d t u response
not_unrolled d t u (Ok list) err same = absurd (false≢true err)
not_unrolled d t u (Err e) err same = record { keeps = subst (λ (v : Tree). Keeps d t v) same (Keeps-refl d t); parts = tt }

-- a loop that is unrolled, and the list of parts that it becomes
module _ (d : Direction) (t mid : Tree) (parts : Result ListFacts AllocError) (finished : HasFinishedParts d t mid parts)
    (facts : PartFacts) (holds : IsWrapperOf facts t) where
  no_goal : HasGoal t → ⊥
  no_goal has_goal = wrapped_goal holds.wrapper holds.body (subst (λ (u : Tree). HasGoal u) holds.is has_goal)

  pub list_finished : (new : Tree) (response : Result PartFacts AllocError) → Normalized d mid new response → Finished ⊥ d t new response
  list_finished new response = finished-then ⊥ d t no_goal (λ none. none) mid new response finished.keeps

  pub list_error : (response : Result PartFacts AllocError) → IsErr response → Finished ⊥ d t mid response
  list_error (Ok known) err = absurd (false≢true err)
  list_error (Err e) err = finished-changed_error ⊥ d t no_goal (λ none. none) mid e finished.keeps

-- a finished node under a stronger condition
pub finished_narrower : (wide narrow : Type 0) (d : Direction) (t new : Tree) (response : Result PartFacts AllocError) → (narrow → wide) →
    Finished wide d t new response → Finished narrow d t new response
finished_narrower wide narrow d t new response narrower finished = record {
  keeps = finished.keeps;
  goal = finished.goal;
  normal = finished.normal;
  facts = finished.facts;
  left = λ clean. finished.left (narrower clean);
  still_one = λ clean. finished.still_one (narrower clean);
}

-- the facts of a body decide whether a loop around it is unrolled
pub facts_decide_unrolling : (q : Quantifier) (start end : ℕ) (body : Tree) (facts : PartFacts) → HasFacts facts body →
    may_unroll_by q start end facts.has_loop facts.has_string_set facts.charge facts.nesting ≡ may_unroll q start end body
facts_decide_unrolling q start end body facts has = rw (has.has_loop, has.has_string_set, has.charge, has.nesting) refl

pub clean_normal : (facts : PartFacts) (t : Tree) → IsCleanAround facts t → IsNormal t
clean_normal facts (leaf l) clean = clean
clean_normal facts (cat parts) clean = clean
clean_normal facts (alt left right) clean = clean
clean_normal facts (wrapped w body) clean = clean.0

-- a loop that is unrolled was not in normal form
pub unrolled_not_clean : (facts : PartFacts) (t : Tree) (q : Quantifier) (start end : ℕ) (body : Tree) → t ≡ wrapped (loop q start end) body →
    may_unroll q start end body ≡ true → IsCleanAround facts t → ⊥
unrolled_not_clean facts t q start end body is may clean =
    true≢false (sym (ap is_unrolled_away is ∙ may) ∙ LacksShape-here is_unrolled_away t (clean_normal facts t clean).unrolled)
