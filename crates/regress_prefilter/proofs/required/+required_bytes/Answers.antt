-- What the parts require is required of the whole.
use Rattle.std.proofs.Common.{arith, ◌≡◌, ◌∙◌, ◌∷◌, ◌+◌, drop, sym, ap, subst}
use Rattle.std.proofs.lemmas.List.{drop_more}
use Rattle.regress_base.specs.ByteBitmap.{contains}
use Rattle.regress_tree.specs.Tree.{Tree, tree, trees, cat, leaf, byte_sequence}
use Rattle.regress_tree.specs.declared.ir.node.Node.{size-Node}
use Rattle.regress_tree.proofs.lemmas.Visits.{right_smaller}
use Rattle.regress_tree.proofs.lemmas.Nodes.{tree-ByteSequence}
use Rattle.regress_prefilter.specs.Required.{IsRequired, NoneFrom}
use Rattle.regress_prefilter.proofs.RequiredLemmas.{same_requires, cat_requires, alt_requires, group_requires, loop_requires, loop_one_requires, bytes_required, not_lacking, of_complement, one_more}
use Rattle.regress_prefilter.proofs.required.+required_bytes.Goals as goal

pub required_bytes-loop-last-preserved : goal.required_bytes-loop-last-preserved
required_bytes-loop-last-preserved t c =
    let l = c.loop-last in
    let down = right_smaller l.last.now c.in-Alt.left c.in-Alt.right c.in-Alt.is in
    let same = ap size-Node c.deref-last.ensures in
    record {
      smaller = omega arith;
      rest = λ b small off takes.
          let both = not_lacking (contains l.lacking) (contains c.add_others.new.others) (contains c.required_bytes.result) b
          (c.add_others.ensures b) small off in
          let first = same_requires (NoneFrom b) _ _ c.deref.ensures (c.required_bytes.ensures b both.1) in
          let rest = same_requires (NoneFrom b) _ _ c.deref-last.ensures takes in
          l.invariant.rest b small both.0 (alt_requires (NoneFrom b) l.last.now c.in-Alt.left c.in-Alt.right c.in-Alt.is first rest);
    }

pub required_bytes-returns : goal.required_bytes-returns
required_bytes-returns t c =
    let l = c.loop-last in
    λ b member.
    let parts = of_complement (contains c.bitnot.result.now) (contains c.add_others-2.new.others) b (c.bitnot.ensures.complement b) member in
    let both = not_lacking (contains l.lacking) (contains c.add_others-2.new.others) (contains c.required_bytes_inside.result) b (c.add_others-2.ensures b) parts.0 parts.1 in
    l.invariant.rest b parts.0 both.0 (c.required_bytes_inside.ensures b both.1)

pub required_bytes_inside-returns-in-Cat : goal.required_bytes_inside-returns-in-Cat
required_bytes_inside-returns-in-Cat t c =
    λ b member. cat_requires (NoneFrom b) _ c.in-Cat.parts _ c.in-Cat.is c.deref.ensures.value (c.required_bytes_of_any.ensures b member)

pub required_bytes_inside-returns-in-CaptureGroup : goal.required_bytes_inside-returns-in-CaptureGroup
required_bytes_inside-returns-in-CaptureGroup t c =
    let at = c.in-CaptureGroup in
    λ b member. group_requires (NoneFrom b) _ at.id at.contents at.name at.is
    (same_requires (NoneFrom b) _ _ c.deref-in-CaptureGroup.ensures (c.required_bytes.ensures b member))

pub required_bytes_inside-returns-in-Loop : goal.required_bytes_inside-returns-in-Loop
required_bytes_inside-returns-in-Loop t c =
    let at = c.in-Loop in
    λ b member. loop_requires (NoneFrom b) _ at.loopee at.quant at.enclosed_groups at.is (omega arith)
    (same_requires (NoneFrom b) _ _ c.deref-in-Loop.ensures (c.required_bytes-in-Loop.ensures b member))

pub required_bytes_inside-returns-in-Loop1CharBody : goal.required_bytes_inside-returns-in-Loop1CharBody
required_bytes_inside-returns-in-Loop1CharBody t c =
    let at = c.in-Loop1CharBody in
    λ b member. loop_one_requires (NoneFrom b) _ at.loopee at.quant at.is (omega arith)
    (same_requires (NoneFrom b) _ _ c.deref-in-Loop1CharBody.ensures (c.required_bytes-in-Loop1CharBody.ensures b member))

pub required_bytes_inside-returns-in-ByteSequence : goal.required_bytes_inside-returns-in-ByteSequence
required_bytes_inside-returns-in-ByteSequence t c =
    let is : tree c.args.node.now ≡ leaf (byte_sequence c.deref-in-ByteSequence.result.now) =
    ap tree c.in-ByteSequence.is ∙ tree-ByteSequence c.in-ByteSequence.bytes
    ∙ ap (λ bytes. leaf (byte_sequence bytes)) (sym c.deref-in-ByteSequence.ensures.value) in
    λ b member. subst (λ (x : Tree). IsRequired b x) (sym is) (bytes_required _ b (sym (c.new.ensures b) ∙ member))

pub required_bytes_of_any-loop-part-preserved : goal.required_bytes_of_any-loop-part-preserved
required_bytes_of_any-loop-part-preserved t c =
    let l = c.loop-part in
    let parts = c.args.parts.now in
    let after = drop (l.part-index + 1) parts in
    let cut = drop_more parts l.part-index c.part-item.result c.loop-part-test.true ∙ ap (λ n. n ∷ after) (sym c.part-item.is) in
    λ b so_far.
    one_more b _ _ _ (tree c.part-item.result) (trees after) (IsRequired b (cat (trees parts))) (c.bitor.ensures b) (c.required_bytes.ensures b)
    (λ h. l.invariant b (rw cut h)) so_far
