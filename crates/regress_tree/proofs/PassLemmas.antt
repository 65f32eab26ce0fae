-- Success and failure of a survey: lists, alternatives, and nodes with a body.
use Rattle.std.proofs.Common.{◌≡◌, ◌≢◌, ℕ, ◌+◌, ◌<◌, ◌==◌, ◌||◌, ◌⊎◌, inl, inr, Bool, true, false, List, [], ◌∷◌, ◌++◌, length, get_or, take, drop, max, Option, refl, sym, ap, subst, ◌∙◌, suc, append-nil, append_assoc, arith}
use Rattle.std.specs.Option.{IfSome}
use Rattle.std.proofs.Math.Seq.{split_at}
use Rattle.std.proofs.lemmas.List.{take_more}
use Rattle.std.proofs.lemmas.Bool.{false≢true}
use Rattle.regress_tree.specs.declared.ir.groups.GroupIds.{GroupIds}
use Rattle.regress_tree.specs.declared.ir.groups.Tally.{Tally}
use Rattle.regress_tree.specs.declared.ir.node.Node.{Node}
use Rattle.regress_base.specs.declared.types.Quantifier.{Quantifier}
use Rattle.regress_tree.specs.Tree.{capture_group, loop, loop_one, lookaround, Tree, Trees, cat, alt, wrapped, no_trees, more_trees, append_trees, tree, trees}
use Rattle.regress_tree.specs.WellFormed.{Capture, captures, captures_of_trees, inside, one_character, IsQuantifier, HasGroups}
use Rattle.regress_tree.specs.Survey.{holds, reference, reference_in_list, IsTally, joined, one, fill, IsAllowedInside, SurveyedAt, RejectedAt}
use Rattle.regress_tree.proofs.lemmas.Lists.{trees-append, captures-append}
use Rattle.regress_tree.proofs.IdLemmas.{fill-has, has-fill, times-append}
use Rattle.regress_tree.proofs.SurveyLemmas.{IsTally-joined, IsTally-one, IsSurveyed-then, IsSurveyed-as, IsSurveyed-none, IsRejected-first, IsRejected-second, IsRejected-as, differ-held, held-insert}
use Rattle.regress_tree.proofs.OccurringLemmas.{IsAllowed-more, occurs-alt, sides-occur, occurs-append, lists-occur, occurs-single, single-occurs}

reference-append : (ts us : Trees) → reference_in_list (append_trees ts us) ≡ max (reference_in_list ts) (reference_in_list us)
reference-append no_trees us = omega arith
reference-append (more_trees t ts) us = omega (arith, reference-append ts us)

-- ---- lists

module _ (ts us : Trees) (before mid : GroupIds) (g : Tally) where
  pub lists-pass : (after : GroupIds) (h : Tally) → SurveyedAt inside (cat ts) before mid g → SurveyedAt inside (cat us) mid after h →
      SurveyedAt inside (cat (append_trees ts us)) before after (joined g h)
  lists-pass after h a b =
      IsSurveyed-as _ _ _ (occurs-append ts us) (sym (captures-append ts us)) (sym (reference-append ts us)) (IsSurveyed-then a b)

  pub lists-fail : SurveyedAt inside (cat ts) before mid g → RejectedAt inside (cat us) mid → RejectedAt inside (cat (append_trees ts us)) before
  lists-fail a b = IsRejected-as _ _ (lists-occur ts us) (sym (captures-append ts us)) (IsRejected-second a b)

pub lists-fail-first : (ts us : Trees) (before : GroupIds) → RejectedAt inside (cat ts) before → RejectedAt inside (cat (append_trees ts us)) before
lists-fail-first ts us before a =
    IsRejected-as _ _ (lists-occur ts us) (sym (captures-append ts us)) (IsRejected-first (IsAllowedInside inside (cat us)) (captures_of_trees us) a)

single-pass : (t : Tree) (before after : GroupIds) (g : Tally) → SurveyedAt inside t before after g →
    SurveyedAt inside (cat (more_trees t no_trees)) before after g
single-pass t before after g a = IsSurveyed-as _ _ _ (occurs-single t) (sym (append-nil (captures t))) (omega arith) a

single-fail : (t : Tree) (before : GroupIds) → RejectedAt inside t before → RejectedAt inside (cat (more_trees t no_trees)) before
single-fail t before a = IsRejected-as _ _ (single-occurs t) (sym (append-nil (captures t))) a

module _ (parts : List Node) (i : ℕ) (in_list : i < length parts) (d node : Node) (at : node ≡ get_or parts i d)
    (before mid : GroupIds) (g : Tally) (passed : SurveyedAt inside (cat (trees (take i parts))) before mid g) where
  more_parts : trees (take (i + 1) parts) ≡ append_trees (trees (take i parts)) (more_trees (tree node) no_trees)
  more_parts =
      ap trees (take_more parts i d in_list ∙ ap (λ n. take i parts ++ n ∷ []) (sym at)) ∙ trees-append (take i parts) (node ∷ [])

  pub parts-next : (after : GroupIds) (h : Tally) → SurveyedAt inside (tree node) mid after h →
      SurveyedAt inside (cat (trees (take (i + 1) parts))) before after (joined g h)
  parts-next after h here =
      subst (λ ts. SurveyedAt inside (cat ts) before after (joined g h)) (sym more_parts)
      (lists-pass (trees (take i parts)) (more_trees (tree node) no_trees) before mid g after h passed
      (single-pass (tree node) mid after h here))

  pub parts-fail : RejectedAt inside (tree node) mid → RejectedAt inside (cat (trees parts)) before
  parts-fail here =
      let rest = trees (drop (suc i) parts) in
      let whole : trees parts ≡ append_trees (trees (take i parts)) (append_trees (more_trees (tree node) no_trees) rest) =
      ap trees (split_at parts i d in_list ∙ ap (λ n. take i parts ++ n ∷ drop (suc i) parts) (sym at)) ∙ trees-append (take i parts)
      (node ∷ drop (suc i) parts) in
      subst (λ ts. RejectedAt inside (cat ts) before) (sym whole)
      (lists-fail (trees (take i parts)) (append_trees (more_trees (tree node) no_trees) rest) before mid g passed
      (lists-fail-first (more_trees (tree node) no_trees) rest mid (single-fail (tree node) mid here)))

-- ---- alternatives: the left sides so far, and the remaining right side

abbrev alternatives : Trees → Tree → Tree
alternatives no_trees t = t
alternatives (more_trees left lefts) t = alt left (alternatives lefts t)

alternatives-push : (lefts : Trees) (left right : Tree) →
    alternatives (append_trees lefts (more_trees left no_trees)) right ≡ alternatives lefts (alt left right)
alternatives-push no_trees left right = refl
alternatives-push (more_trees l lefts) left right = ap (alt l) (alternatives-push lefts left right)

captures-alternatives : (lefts : Trees) (t : Tree) → captures (alternatives lefts t) ≡ captures_of_trees lefts ++ captures t
captures-alternatives no_trees t = refl
captures-alternatives (more_trees l lefts) t =
    ap (λ cs. captures l ++ cs) (captures-alternatives lefts t) ∙ sym (append_assoc (captures l) (captures_of_trees lefts) (captures t))

reference-alternatives : (lefts : Trees) (t : Tree) → reference (alternatives lefts t) ≡ max (reference_in_list lefts) (reference t)
reference-alternatives no_trees t = omega arith
reference-alternatives (more_trees l lefts) t = omega (arith, reference-alternatives lefts t)

occurs-alternatives : (lefts : Trees) (t : Tree) → IsAllowedInside inside (cat lefts) × IsAllowedInside inside t → IsAllowedInside inside (alternatives lefts t)
occurs-alternatives no_trees t (a, b) = b
occurs-alternatives (more_trees l lefts) t (a, b) =
    let parts = lists-occur (more_trees l no_trees) lefts a in
    occurs-alt l (alternatives lefts t) (single-occurs l parts.0, occurs-alternatives lefts t (parts.1, b))

alternatives-occur : (lefts : Trees) (t : Tree) → IsAllowedInside inside (alternatives lefts t) → IsAllowedInside inside (cat lefts) × IsAllowedInside inside t
alternatives-occur no_trees t s = ((0, (tt, tt)), s)
alternatives-occur (more_trees l lefts) t s =
    let sides = sides-occur l (alternatives lefts t) s in
    let rest = alternatives-occur lefts t sides.1 in
    (occurs-append (more_trees l no_trees) lefts (occurs-single l sides.0, rest.0), rest.1)

pub record SpineSurveyed (whole node : Tree) (before now : GroupIds) (so_far : Tally) : Type 0 where
  pub lefts : Trees
  pub whole_is : whole ≡ alternatives lefts node
  pub passed : SurveyedAt inside (cat lefts) before now so_far

pub spine-start : (t : Tree) (ids : GroupIds) (g : Tally) → IsTally g [] 0 → SpineSurveyed t t ids ids g
spine-start t ids g reported = record { lefts = no_trees; whole_is = refl; passed = IsSurveyed-none (0, (tt, tt)) reported }

module _ (whole : Tree) (before mid : GroupIds) (g : Tally) where
  pub spine-next : (left right : Tree) (after : GroupIds) (h : Tally) → SpineSurveyed whole (alt left right) before mid g →
      SurveyedAt inside left mid after h → SpineSurveyed whole right before after (joined g h)
  spine-next left right after h s here = record {
    lefts = append_trees s.lefts (more_trees left no_trees);
    whole_is = s.whole_is ∙ sym (alternatives-push s.lefts left right);
    passed = lists-pass s.lefts (more_trees left no_trees) before mid g after h s.passed (single-pass left mid after h here);
  }

  pub spine-last : (node : Tree) (after : GroupIds) (h : Tally) → SpineSurveyed whole node before mid g →
      SurveyedAt inside node mid after h → SurveyedAt inside whole before after (joined g h)
  spine-last node after h s here =
      subst (λ t. SurveyedAt inside t before after (joined g h)) (sym s.whole_is)
      (IsSurveyed-as _ _ _ (occurs-alternatives s.lefts node) (sym (captures-alternatives s.lefts node))
      (sym (reference-alternatives s.lefts node)) (IsSurveyed-then s.passed here))

  pub spine-fail-last : (node : Tree) → SpineSurveyed whole node before mid g → RejectedAt inside node mid → RejectedAt inside whole before
  spine-fail-last node s here =
      subst (λ t. RejectedAt inside t before) (sym s.whole_is)
      (IsRejected-as _ _ (alternatives-occur s.lefts node) (sym (captures-alternatives s.lefts node)) (IsRejected-second s.passed here))

  pub spine-fail : (left right : Tree) → SpineSurveyed whole (alt left right) before mid g → RejectedAt inside left mid →
      RejectedAt inside whole before
  spine-fail left right s here =
      spine-fail-last (alt left right) s
      (IsRejected-as _ _ (sides-occur left right) refl (IsRejected-first (IsAllowedInside inside right) (captures right) here))

-- ---- nodes with a body

pub group-pass : (id : ℕ) (name : Option (List ℕ)) (body : Tree) (before mid after : GroupIds) (g : Tally) →
    IfSome name (λ bytes. bytes ≢ []) → id < 65536 → holds before id ≡ false →
    ((k : ℕ) → holds mid k ≡ ((k == id) || holds before k)) → SurveyedAt inside body mid after g →
    SurveyedAt inside (wrapped (capture_group id name) body) before after (joined (one id) g)
group-pass id name body before mid after g named small fresh more p = record {
  occurs =
      (max (id + 1) p.occurs.0, (tt, (omega arith, named), IsAllowed-more p.occurs.0 _ body inside (omega arith) p.occurs.1));
  ids = λ k. omega (arith, p.ids k, held-insert before mid group fresh more k, times-append k (group ∷ []) (captures body));
  reported = subst (λ r. IsTally (joined (one id) g) (group ∷ captures body) r) (max_zero (reference body))
      (IsTally-joined (one id) g (group ∷ []) (captures body) 0 (reference body) (IsTally-one id group refl small) p.reported);
}
  where
    group : Capture
    group = record { id = id; name = name }

    max_zero : (n : ℕ) → max 0 n ≡ n
    max_zero n = omega arith

module _ (body : Tree) (before after : GroupIds) (g : Tally) (p : SurveyedAt inside body before after g) (start end : ℕ) where
  has_groups : end < 65536 → fill start end g ≡ true → HasGroups start end body
  has_groups small full =
      fill-has g (captures body) (reference body) p.reported (differ-held before after (captures body) p.ids) start end (omega arith) full

  lacks_groups : start < 65536 → end < 65536 → fill start end g ≡ false → HasGroups start end body → ⊥
  lacks_groups small small' other has =
      false≢true (sym other ∙ has-fill g (captures body) (reference body) p.reported start end (omega arith) (omega arith) has)

  pub loop-pass : (q : Quantifier) → end < 65536 → IsQuantifier q → fill start end g ≡ true →
      SurveyedAt inside (wrapped (loop q start end) body) before after g
  loop-pass q small is full = record {
    occurs = (p.occurs.0, (tt, (is, has_groups small full), p.occurs.1));
    ids = p.ids;
    reported = p.reported;
  }

  pub loop-fail : (q : Quantifier) → start < 65536 → end < 65536 → (IsQuantifier q → ⊥) ⊎ (fill start end g ≡ false) →
      RejectedAt inside (wrapped (loop q start end) body) before
  loop-fail q small small' (inl not_one) = record { refuted = λ s differ. not_one s.1.1.0 }
  loop-fail q small small' (inr other) = record { refuted = λ s differ. lacks_groups small small' other s.1.1.1 }

  pub look-pass : (negate backwards : Bool) → end < 65536 → fill start end g ≡ true →
      SurveyedAt inside (wrapped (lookaround negate backwards start end) body) before after g
  look-pass negate backwards small full = record {
    occurs = (p.occurs.0, (tt, has_groups small full, p.occurs.1));
    ids = p.ids;
    reported = p.reported;
  }

  pub look-fail : (negate backwards : Bool) → start < 65536 → end < 65536 → fill start end g ≡ false →
      RejectedAt inside (wrapped (lookaround negate backwards start end) body) before
  look-fail negate backwards small small' other = record { refuted = λ s differ. lacks_groups small small' other s.1.1 }

-- a node whose body is rejected
module _ (body : Tree) (before : GroupIds) where
  pub group-refuted : (id : ℕ) (name : Option (List ℕ)) (mid : GroupIds) → holds before id ≡ false →
      ((k : ℕ) → holds mid k ≡ ((k == id) || holds before k)) → RejectedAt inside body mid →
      RejectedAt inside (wrapped (capture_group id name) body) before
  group-refuted id name mid fresh more p =
      let group : Capture = record { id = id; name = name } in
      record {
        refuted = λ s differ. p.refuted (s.0, s.1.2)
            (λ k. omega (arith, differ k, held-insert before mid group fresh more k, times-append k (group ∷ []) (captures body)));
      }

  pub loop-refuted : (q : Quantifier) (start end : ℕ) → RejectedAt inside body before → RejectedAt inside (wrapped (loop q start end) body) before
  loop-refuted q start end p = record { refuted = λ s differ. p.refuted (s.0, s.1.2) differ }

  pub look-refuted : (negate backwards : Bool) (start end : ℕ) → RejectedAt inside body before →
      RejectedAt inside (wrapped (lookaround negate backwards start end) body) before
  look-refuted negate backwards start end p = record { refuted = λ s differ. p.refuted (s.0, s.1.2) differ }

  pub one-fail : (q : Quantifier) → (IsQuantifier q → ⊥) ⊎ (IsAllowedInside one_character body → ⊥) →
      RejectedAt inside (wrapped (loop_one q) body) before
  one-fail q (inl not_one) = record { refuted = λ s differ. not_one s.1.1 }
  one-fail q (inr not_one) = record { refuted = λ s differ. not_one (s.0, s.1.2) }
