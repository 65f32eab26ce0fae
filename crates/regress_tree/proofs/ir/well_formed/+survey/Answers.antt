-- Each proof applies a lemma about trees to the values of the call.
use Rattle.std.proofs.Common.{◌≡◌, ◌<◌, true, false, length, inl, inr, le_trans, rules, arith, sym, ap, subst, ◌∙◌}
use Rattle.std.specs.Prelude.{option_map, string_bytes}
use Rattle.std.proofs.lemmas.Bool.{false≢true, not-true}
use Rattle.regress_tree.specs.Tree.{tree, wrapped, capture_group, loop, lookaround}
use Rattle.regress_tree.proofs.lemmas.Nodes.{tree-CaptureGroup, tree-Loop, tree-Loop1CharBody, tree-LookaroundAssertion}
use Rattle.regress_tree.proofs.lemmas.Nesting.{alt_of}
use Rattle.regress_tree.proofs.lemmas.Visits.{right_smaller}
use Rattle.regress_tree.specs.WellFormed.{inside}
use Rattle.regress_tree.specs.Survey.{fill, SurveyedAt, RejectedAt}
use Rattle.regress_tree.proofs.PassLemmas.{SpineSurveyed, spine-start, spine-next, spine-last, spine-fail, spine-fail-last, parts-next, parts-fail, group-pass, loop-pass, loop-fail, look-pass, look-fail, group-refuted, loop-refuted, look-refuted, one-fail}
use Rattle.regress_tree.proofs.ir.well_formed.+survey.Goals as goal
use Rattle.regress_tree.proofs.ir.well_formed.+survey.Goals.{survey_other-else-is_quantifier-2-via-then-is_quantifier-2+else-is_one_character, survey_other-else-is_quantifier-2-via-else-is_quantifier-2, survey_other-else-is_quantifier-via-then-is_quantifier+else-are, survey_other-else-is_quantifier-via-else-is_quantifier}

pub survey-loop-node-init : goal.survey-loop-node-init
survey-loop-node-init t c = record {
  smaller = omega arith;
  so_far = spine-start (tree c.args.node.now) c.args.ids.now c.none-groups.result c.none-groups.ensures;
}

pub survey-returns-in_err-survey : goal.survey-returns-in_err-survey
survey-returns-in_err-survey t c =
    let l = c.loop-node in
    let is = alt_of l.node.now c.in-Alt.left c.in-Alt.right c.deref.result.now c.in-Alt.is c.deref.ensures in
    let so_far = subst (λ x. SpineSurveyed (tree c.args.node.now) x c.args.ids.now l.ids l.groups) is l.invariant.so_far in
    rw c.from_residual.ensures
    (spine-fail (tree c.args.node.now) c.args.ids.now l.ids l.groups (tree c.deref.result.now) (tree c.in-Alt.right.value) so_far
    c.in_err-survey.ensures)

pub survey-loop-node-preserved : goal.survey-loop-node-preserved
survey-loop-node-preserved t c =
    let l = c.loop-node in
    let is = alt_of l.node.now c.in-Alt.left c.in-Alt.right c.deref.result.now c.in-Alt.is c.deref.ensures in
    let so_far = subst (λ x. SpineSurveyed (tree c.args.node.now) x c.args.ids.now l.ids l.groups) is l.invariant.so_far in
    record {
      smaller = rw c.deref-node.ensures (le_trans (right_smaller _ _ _ c.in-Alt.is) l.invariant.smaller);
      so_far = rw (c.deref-node.ensures, c.join-groups.ensures)
          (spine-next (tree c.args.node.now) c.args.ids.now l.ids l.groups (tree c.deref.result.now) (tree c.in-Alt.right.value)
          c.survey.new.ids c.in_ok-survey.field-0 so_far c.in_ok-survey.ensures);
    }

pub survey-returns-in_err-survey_other : goal.survey-returns-in_err-survey_other
survey-returns-in_err-survey_other t c =
    let l = c.loop-node in
    rw c.from_residual-in_err-survey_other.ensures
    (spine-fail-last (tree c.args.node.now) c.args.ids.now l.ids l.groups (tree l.node.now) l.invariant.so_far
    c.in_err-survey_other.ensures)

pub survey-returns : goal.survey-returns
survey-returns t c =
    let l = c.loop-node in
    rw c.join.ensures
    (spine-last (tree c.args.node.now) c.args.ids.now l.ids l.groups (tree l.node.now) c.survey_other.new.ids
    c.in_ok-survey_other.field-0 l.invariant.so_far c.in_ok-survey_other.ensures)

pub survey_parts-returns-in_err-survey : goal.survey_parts-returns-in_err-survey
survey_parts-returns-in_err-survey t c =
    let l = c.loop-part in
    let in_list : l.part-index < length c.args.parts.now = search rules in
    rw c.from_residual.ensures
    (parts-fail c.args.parts.now l.part-index in_list _ c.part-item.result c.part-item.is c.args.ids.now l.ids l.groups l.invariant c.in_err-survey.ensures)

pub survey_parts-loop-part-preserved : goal.survey_parts-loop-part-preserved
survey_parts-loop-part-preserved t c =
    let l = c.loop-part in
    let in_list : l.part-index < length c.args.parts.now = search rules in
    rw c.join-groups.ensures
    (parts-next c.args.parts.now l.part-index in_list _ c.part-item.result c.part-item.is c.args.ids.now l.ids l.groups l.invariant c.survey.new.ids
    c.in_ok-survey.field-0 c.in_ok-survey.ensures)

pub survey_other-returns-in_ok-survey-in-CaptureGroup : goal.survey_other-returns-in_ok-survey-in-CaptureGroup
survey_other-returns-in_ok-survey-in-CaptureGroup t c =
    let at = c.in-CaptureGroup in
    let name = option_map string_bytes at.name in
    let body = c.deref-in-CaptureGroup.result.now in
    let groups = c.in_ok-survey-in-CaptureGroup.field-0 in
    let is : tree c.args.node.now ≡ wrapped (capture_group at.id name) (tree body) =
    ap tree at.is ∙ tree-CaptureGroup at.id at.contents at.name
    ∙ ap (λ n. wrapped (capture_group at.id name) (tree n)) (sym c.deref-in-CaptureGroup.ensures) in
    let named = c.is_name.ensures.0 (search rules) in
    let fresh = not-true _ (sym c.insert.ensures.new ∙ search rules) in
    subst (λ x. SurveyedAt inside x c.args.ids.now c.survey.new.ids c.with.result) (sym is)
    (rw c.with.ensures
    (group-pass at.id name (tree body) c.args.ids.now c.insert.new.self c.survey.new.ids groups named (omega arith) fresh
    c.insert.ensures.after c.in_ok-survey-in-CaptureGroup.ensures))

pub survey_other-returns-then-are : goal.survey_other-returns-then-are
survey_other-returns-then-are t c =
    let at = c.in-Loop in
    let groups = c.in_ok-groups-in-Loop.groups in
    let body = c.deref-in-Loop.result.now in
    let start = at.enclosed_groups.start in
    let end = at.enclosed_groups.end in
    let is : tree c.args.node.now ≡ wrapped (loop at.quant start end) (tree body) =
    ap tree at.is ∙ tree-Loop at.loopee at.quant at.enclosed_groups
    ∙ ap (λ n. wrapped (loop at.quant start end) (tree n)) (sym c.deref-in-Loop.ensures) in
    let full : fill start end groups ≡ true = grind (arith, c.if-are.ensures) in
    subst (λ x. SurveyedAt inside x c.args.ids.now c.survey-in-Loop.new.ids groups) (sym is)
    (loop-pass (tree body) c.args.ids.now c.survey-in-Loop.new.ids groups c.in_ok-groups-in-Loop.ensures start end at.quant
    (omega arith) (c.is_quantifier.ensures.0 (search rules)) full)

pub survey_other-returns-else-is_quantifier : goal.survey_other-returns-else-is_quantifier
survey_other-returns-else-is_quantifier t c =
    let at = c.in-Loop in
    let groups = c.in_ok-groups-in-Loop.groups in
    let body = c.deref-in-Loop.result.now in
    let start = at.enclosed_groups.start in
    let end = at.enclosed_groups.end in
    let is : tree c.args.node.now ≡ wrapped (loop at.quant start end) (tree body) =
    ap tree at.is ∙ tree-Loop at.loopee at.quant at.enclosed_groups
    ∙ ap (λ n. wrapped (loop at.quant start end) (tree n)) (sym c.deref-in-Loop.ensures) in
    subst (λ x. RejectedAt inside x c.args.ids.now) (sym is)
    (loop-fail (tree body) c.args.ids.now c.survey-in-Loop.new.ids groups c.in_ok-groups-in-Loop.ensures start end at.quant
    (omega arith) (omega arith)
    (elim c.else-is_quantifier.branch [
      | survey_other-else-is_quantifier-via-then-is_quantifier+else-are w ↦ inr (grind (arith, w.if-are.ensures))
      | survey_other-else-is_quantifier-via-else-is_quantifier w ↦
          inl (λ q. false≢true (sym w.if-is_quantifier.false ∙ c.is_quantifier.ensures.1 q))
    ]))

pub survey_other-returns-in_err-survey-in-CaptureGroup : goal.survey_other-returns-in_err-survey-in-CaptureGroup
survey_other-returns-in_err-survey-in-CaptureGroup t c =
    let at = c.in-CaptureGroup in
    let body = c.deref-in-CaptureGroup.result.now in
    let wrapper = capture_group at.id (option_map string_bytes at.name) in
    let is : tree c.args.node.now ≡ wrapped wrapper (tree body) =
    ap tree at.is ∙ tree-CaptureGroup at.id at.contents at.name
    ∙ ap (λ n. wrapped wrapper (tree n)) (sym c.deref-in-CaptureGroup.ensures) in
    let fresh = not-true _ (sym c.insert.ensures.new ∙ search rules) in
    rw c.from_residual.ensures
    (subst (λ x. RejectedAt inside x c.args.ids.now) (sym is)
    (group-refuted (tree body) c.args.ids.now at.id (option_map string_bytes at.name) c.insert.new.self fresh c.insert.ensures.after
    c.in_err-survey-in-CaptureGroup.ensures))

pub survey_other-returns-in_err-groups-in-Loop : goal.survey_other-returns-in_err-groups-in-Loop
survey_other-returns-in_err-groups-in-Loop t c =
    let at = c.in-Loop in
    let body = c.deref-in-Loop.result.now in
    let wrapper = loop at.quant at.enclosed_groups.start at.enclosed_groups.end in
    let is : tree c.args.node.now ≡ wrapped wrapper (tree body) =
    ap tree at.is ∙ tree-Loop at.loopee at.quant at.enclosed_groups
    ∙ ap (λ n. wrapped wrapper (tree n)) (sym c.deref-in-Loop.ensures) in
    rw c.from_residual-in_err-groups-in-Loop.ensures
    (subst (λ x. RejectedAt inside x c.args.ids.now) (sym is)
    (loop-refuted (tree body) c.args.ids.now at.quant at.enclosed_groups.start at.enclosed_groups.end c.in_err-groups-in-Loop.ensures))

pub survey_other-returns-in_err-groups-in-LookaroundAssertion : goal.survey_other-returns-in_err-groups-in-LookaroundAssertion
survey_other-returns-in_err-groups-in-LookaroundAssertion t c =
    let at = c.in-LookaroundAssertion in
    let body = c.deref-in-LookaroundAssertion.result.now in
    let wrapper = lookaround at.negate at.backwards at.start_group at.end_group in
    let is : tree c.args.node.now ≡ wrapped wrapper (tree body) =
    ap tree at.is ∙ tree-LookaroundAssertion at.negate at.backwards at.start_group at.end_group at.contents
    ∙ ap (λ n. wrapped wrapper (tree n)) (sym c.deref-in-LookaroundAssertion.ensures) in
    rw c.from_residual-in_err-groups-in-LookaroundAssertion.ensures
    (subst (λ x. RejectedAt inside x c.args.ids.now) (sym is)
    (look-refuted (tree body) c.args.ids.now at.negate at.backwards at.start_group at.end_group c.in_err-groups-in-LookaroundAssertion.ensures))

pub survey_other-returns-else-is_quantifier-2 : goal.survey_other-returns-else-is_quantifier-2
survey_other-returns-else-is_quantifier-2 t c =
    let at = c.in-Loop1CharBody in
    let q = at.quant in
    let body = tree at.loopee.value in
    let is = ap tree at.is ∙ tree-Loop1CharBody at.loopee q in
    subst (λ x. RejectedAt inside x c.args.ids.now) (sym is)
    (one-fail body c.args.ids.now q
    (elim c.else-is_quantifier-2.branch [
      | survey_other-else-is_quantifier-2-via-then-is_quantifier-2+else-is_one_character w ↦
          inr (λ one. false≢true (sym w.if-is_one_character.false ∙ w.is_one_character.ensures.1 (rw (← w.deref-then-is_quantifier-2.ensures) at one)))
      | survey_other-else-is_quantifier-2-via-else-is_quantifier-2 w ↦
          inl (λ one. false≢true (sym w.if-is_quantifier-2.false ∙ c.is_quantifier-in-Loop1CharBody.ensures.1 one))
    ]))

pub survey_other-returns-then-are-2 : goal.survey_other-returns-then-are-2
survey_other-returns-then-are-2 t c =
    let at = c.in-LookaroundAssertion in
    let groups = c.in_ok-groups-in-LookaroundAssertion.groups in
    let body = c.deref-in-LookaroundAssertion.result.now in
    let wrapper = lookaround at.negate at.backwards at.start_group at.end_group in
    let is : tree c.args.node.now ≡ wrapped wrapper (tree body) =
    ap tree at.is ∙ tree-LookaroundAssertion at.negate at.backwards at.start_group at.end_group at.contents
    ∙ ap (λ n. wrapped wrapper (tree n)) (sym c.deref-in-LookaroundAssertion.ensures) in
    let full : fill at.start_group at.end_group groups ≡ true = grind (arith, c.if-are-2.ensures) in
    subst (λ x. SurveyedAt inside x c.args.ids.now c.survey-in-LookaroundAssertion.new.ids groups) (sym is)
    (look-pass (tree body) c.args.ids.now c.survey-in-LookaroundAssertion.new.ids groups c.in_ok-groups-in-LookaroundAssertion.ensures
    at.start_group at.end_group at.negate at.backwards (omega arith) full)

pub survey_other-returns-else-are-2 : goal.survey_other-returns-else-are-2
survey_other-returns-else-are-2 t c =
    let at = c.in-LookaroundAssertion in
    let groups = c.in_ok-groups-in-LookaroundAssertion.groups in
    let body = c.deref-in-LookaroundAssertion.result.now in
    let wrapper = lookaround at.negate at.backwards at.start_group at.end_group in
    let is : tree c.args.node.now ≡ wrapped wrapper (tree body) =
    ap tree at.is ∙ tree-LookaroundAssertion at.negate at.backwards at.start_group at.end_group at.contents
    ∙ ap (λ n. wrapped wrapper (tree n)) (sym c.deref-in-LookaroundAssertion.ensures) in
    let other : fill at.start_group at.end_group groups ≡ false = grind (arith, c.if-are-2.ensures) in
    subst (λ x. RejectedAt inside x c.args.ids.now) (sym is)
    (look-fail (tree body) c.args.ids.now c.survey-in-LookaroundAssertion.new.ids groups c.in_ok-groups-in-LookaroundAssertion.ensures
    at.start_group at.end_group at.negate at.backwards (omega arith) (omega arith) other)
