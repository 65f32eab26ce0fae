use Rattle.std.proofs.Common.{rules, arith, ◌≡◌, true, [], flat_map, sym, ap, ◌∙◌, subst}
use Rattle.regress_tree.specs.Matching.{steps}
use Rattle.regress_tree.specs.Reading.{direction_if}
use Rattle.regress_tree.specs.Tree.{tree, leaf, anchor, word_boundary}
use Rattle.regress_tree.specs.declared.ir.node.Node.{the_lemmas}
use Rattle.regress_code.specs.NextBytes.{Bounds}
use Rattle.regress_code.proofs.NextBytesLemmas.{anchor_outside, hold_bounds, mapped_bounds}
use Rattle.regress_code.proofs.next_bytes.assertion_next_bytes.Goals as goal

pub returns-then-multiline : goal.returns-then-multiline
returns-then-multiline c = λ setting text s g holds.
    let d = direction_if c.args.backwards in
    let line = c.line_next_bytes.result in
    let written : tree c.args.node.now ≡ leaf (anchor c.in-Anchor.anchor_type c.in-Anchor.multiline) =
    first_of (search (rules, the_lemmas), grind (arith, the_lemmas)) in
    let is : tree c.args.node.now ≡ leaf (anchor c.in-Anchor.anchor_type true) = written ∙ ap (λ m. leaf (anchor c.in-Anchor.anchor_type m)) c.if-multiline.true in
    subst (λ t. Bounds c.and.result d text s.position (flat_map g (steps setting text d t s))) (sym is)
    (c.and.ensures d text s.position _ (mapped_bounds line d text s.position _ g (c.line_next_bytes.ensures setting text s))
    (hold_bounds c.args.after d text s g holds _))

pub returns-else-multiline : goal.returns-else-multiline
returns-else-multiline c = λ setting text s g holds out.
    let d = direction_if c.args.backwards in
    let is : tree c.args.node.now ≡ leaf (anchor c.in-Anchor.anchor_type c.in-Anchor.multiline) =
    first_of (search (rules, the_lemmas), grind (arith, the_lemmas)) in
    ap (flat_map g)
    (subst (λ t. steps setting text d t s ≡ []) (sym (is ∙ ap (λ m. leaf (anchor c.in-Anchor.anchor_type m)) c.if-multiline.false))
    (anchor_outside c.in-Anchor.anchor_type setting d c.default.result text s out))

pub returns-in-WordBoundary : goal.returns-in-WordBoundary
returns-in-WordBoundary c = λ setting text s g holds.
    let d = direction_if c.args.backwards in
    let is : tree c.args.node.now ≡ leaf (word_boundary c.in-WordBoundary.invert c.in-WordBoundary.unicode_icase) =
    first_of (search (rules, the_lemmas), grind (arith, the_lemmas)) in
    subst (λ t. Bounds c.args.after d text s.position (flat_map g (steps setting text d t s))) (sym is) (hold_bounds c.args.after d text s g holds _)
