-- What the parts require is required of the whole.
use Rattle.std.proofs.Common.{arith, ◌≡◌, ◌∙◌, ◌∷◌, ◌+◌, List, ℕ, drop, sym, ap, subst}
use Rattle.std.proofs.lemmas.List.{drop_more}
use Rattle.regress_tree.specs.Tree.{Tree, tree, trees, cat, leaf, byte_sequence}
use Rattle.regress_tree.proofs.lemmas.Nodes.{tree-ByteSequence}
use Rattle.regress_prefilter.specs.Literals.{bytes_in, literals, literals_of_trees, longer, longest}
use Rattle.regress_prefilter.specs.Required.{AbsentFrom, IsRequiredLiteral}
use Rattle.regress_prefilter.proofs.LiteralLemmas.{cat_literals, group_literals, loop_literals, loop_one_literals, longer-assoc, longest-append, not_empty_of_two}
use Rattle.regress_prefilter.proofs.RequiredLemmas.{same_requires, cat_requires, group_requires, loop_requires, loop_one_requires, first_requires, rest_requires, literal_lasts, literal_required, found_of_part, found_of_two}
use Rattle.regress_prefilter.proofs.literal.+required_literal.Goals as goal

pub required_literal-returns-in-Cat-clause-required : goal.required_literal-returns-in-Cat-clause-required
required_literal-returns-in-Cat-clause-required t c =
    found_of_part _ (cat (trees c.deref.result.now)) (tree c.args.node.now)
    (λ literal is. cat_requires (AbsentFrom literal) _ c.in-Cat.parts _ c.in-Cat.is c.deref.ensures.value is) c.longest_literal.ensures.required

pub required_literal-returns-in-CaptureGroup-clause-required : goal.required_literal-returns-in-CaptureGroup-clause-required
required_literal-returns-in-CaptureGroup-clause-required t c =
    let at = c.in-CaptureGroup in
    found_of_part _ (tree c.deref-in-CaptureGroup.result.now) (tree c.args.node.now)
    (λ literal is. group_requires (AbsentFrom literal) _ at.id at.contents at.name at.is
    (same_requires (AbsentFrom literal) _ _ c.deref-in-CaptureGroup.ensures is)) c.required_literal.ensures.required

pub required_literal-returns-in-Loop-clause-required : goal.required_literal-returns-in-Loop-clause-required
required_literal-returns-in-Loop-clause-required t c =
    let at = c.in-Loop in
    found_of_part _ (tree c.deref-in-Loop.result.now) (tree c.args.node.now)
    (λ literal is. loop_requires (AbsentFrom literal) _ at.loopee at.quant at.enclosed_groups at.is (omega arith)
    (same_requires (AbsentFrom literal) _ _ c.deref-in-Loop.ensures is)) c.required_literal-in-Loop.ensures.required

pub required_literal-returns-in-Loop1CharBody-clause-required : goal.required_literal-returns-in-Loop1CharBody-clause-required
required_literal-returns-in-Loop1CharBody-clause-required t c =
    let at = c.in-Loop1CharBody in
    found_of_part _ (tree c.deref-in-Loop1CharBody.result.now) (tree c.args.node.now)
    (λ literal is. loop_one_requires (AbsentFrom literal) _ at.loopee at.quant at.is (omega arith)
    (same_requires (AbsentFrom literal) _ _ c.deref-in-Loop1CharBody.ensures is)) c.required_literal-in-Loop1CharBody.ensures.required

pub required_literal-returns-in-ByteSequence-clause-required : goal.required_literal-returns-in-ByteSequence-clause-required
required_literal-returns-in-ByteSequence-clause-required t c =
    let is : tree c.args.node.now ≡ leaf (byte_sequence c.as_slice.result.now) =
    ap tree c.in-ByteSequence.is ∙ tree-ByteSequence c.in-ByteSequence.bytes
    ∙ ap (λ bytes. leaf (byte_sequence bytes)) (sym c.as_slice.ensures.value) in
    subst (λ (x : Tree). IsRequiredLiteral c.as_slice.result.now x) (sym is) (literal_required c.as_slice.result.now)

pub longest_literal-loop-part-preserved : goal.longest_literal-loop-part-preserved
longest_literal-loop-part-preserved t c =
    let l = c.loop-part in
    let parts = c.args.parts.now in
    let after = drop (l.part-index + 1) parts in
    let cut = drop_more parts l.part-index c.part-item.result c.loop-part-test.true ∙ ap (λ n. n ∷ after) (sym c.part-item.is) in
    let here : (literal : List ℕ) → IsRequiredLiteral literal (tree c.part-item.result) → IsRequiredLiteral literal (cat (trees parts)) =
    λ literal is. l.invariant.rest literal (rw cut (first_requires (AbsentFrom literal) (tree c.part-item.result) (trees after) is)) in
    record {
      found = found_of_two l.longest c.required_literal.result _ (cat (trees parts)) c.longer-longest.ensures.one_of l.invariant.found
          (found_of_part _ (tree c.part-item.result) (cat (trees parts)) here c.required_literal.ensures.required);
      rest = λ literal is.
          l.invariant.rest literal
          (rw cut (rest_requires (AbsentFrom literal) (tree c.part-item.result) (trees after) (literal_lasts literal) is));
      not_empty = not_empty_of_two l.longest c.required_literal.result _ c.longer-longest.ensures.one_of l.invariant.not_empty
          c.required_literal.ensures.not_empty;
      longest = l.invariant.longest ∙ ap (λ ns. longer (bytes_in l.longest) (longest (literals_of_trees (trees ns)))) cut
          ∙ ap (longer (bytes_in l.longest)) (longest-append (literals (tree c.part-item.result)) (literals_of_trees (trees after))
          ∙ ap (λ r. longer r (longest (literals_of_trees (trees after)))) (sym c.required_literal.ensures.longest))
          ∙ sym (longer-assoc (bytes_in l.longest) (bytes_in c.required_literal.result) (longest (literals_of_trees (trees after))))
          ∙ ap (λ r. longer r (longest (literals_of_trees (trees after)))) (sym c.longer-longest.ensures.longer);
    }

pub required_literal-returns-in-Cat-clause-longest : goal.required_literal-returns-in-Cat-clause-longest
required_literal-returns-in-Cat-clause-longest t c =
    c.longest_literal.ensures.longest ∙ ap longest (cat_literals _ c.in-Cat.parts _ c.in-Cat.is c.deref.ensures.value)

pub required_literal-returns-in-CaptureGroup-clause-longest : goal.required_literal-returns-in-CaptureGroup-clause-longest
required_literal-returns-in-CaptureGroup-clause-longest t c =
    let at = c.in-CaptureGroup in
    c.required_literal.ensures.longest ∙ ap (λ n. longest (literals (tree n))) c.deref-in-CaptureGroup.ensures
    ∙ ap longest (group_literals _ at.id at.contents at.name at.is)

pub required_literal-returns-in-Loop-clause-longest : goal.required_literal-returns-in-Loop-clause-longest
required_literal-returns-in-Loop-clause-longest t c =
    let at = c.in-Loop in
    c.required_literal-in-Loop.ensures.longest ∙ ap (λ n. longest (literals (tree n))) c.deref-in-Loop.ensures
    ∙ ap longest (loop_literals _ at.loopee at.quant at.enclosed_groups at.is (omega arith))

pub required_literal-returns-in-Loop1CharBody-clause-longest : goal.required_literal-returns-in-Loop1CharBody-clause-longest
required_literal-returns-in-Loop1CharBody-clause-longest t c =
    let at = c.in-Loop1CharBody in
    c.required_literal-in-Loop1CharBody.ensures.longest ∙ ap (λ n. longest (literals (tree n))) c.deref-in-Loop1CharBody.ensures
    ∙ ap longest (loop_one_literals _ at.loopee at.quant at.is (omega arith))
