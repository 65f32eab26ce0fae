use Rattle.std.proofs.Common.{rules, arith, ◌≡◌, ◌∙◌, ap, sym, subst}
use Rattle.std.specs.Prelude.{option_map, string_bytes}
use Rattle.regress_tree.specs.Tree.{tree, trees, cat, wrapped, capture_group}
use Rattle.regress_tree.specs.declared.ir.node.Node.{the_lemmas}
use Rattle.regress_tree.proofs.lemmas.Nesting.{alt_of}
use Rattle.regress_tree.proofs.lemmas.Nodes.{tree-Anchor, tree-Cat, tree-CaptureGroup}
use Rattle.regress_prefilter.specs.Candidates.{IsAnchored}
use Rattle.regress_prefilter.proofs.AnchorLemmas.{anchored-leaf, anchored-alt, anchored-group}
use Rattle.regress_prefilter.proofs.candidates.+is_anchored.Goals as goal

pub is_anchored-loop-node-init : goal.is_anchored-loop-node-init
is_anchored-loop-node-init t c = record { smaller = omega arith; then_all = λ is. is }

pub is_anchored-loop-node-preserved : goal.is_anchored-loop-node-preserved
is_anchored-loop-node-preserved t c =
    let l = c.loop-node in
    let is = alt_of l.node.now c.in-Alt.left c.in-Alt.right c.deref.result.now c.in-Alt.is c.deref.ensures in
    let then_all = subst (λ x. IsAnchored x → IsAnchored (tree c.args.node.now)) is l.invariant.then_all in
    record {
      smaller = first_of (search (rules, the_lemmas), grind (arith, the_lemmas));
      then_all = λ last. then_all
          (anchored-alt (tree c.deref.result.now) (tree c.in-Alt.right.value) (c.is_anchored.ensures c.if-not-is_anchored.false)
          (subst (λ n. IsAnchored (tree n)) c.deref-node.ensures last));
    }

pub is_anchored_other-returns-in-Cat : goal.is_anchored_other-returns-in-Cat
is_anchored_other-returns-in-Cat t c = λ holds.
    let is : tree c.args.node.now ≡ cat (trees c.deref.result.now) =
    ap tree c.in-Cat.is ∙ tree-Cat c.in-Cat.parts ∙ ap (λ parts. cat (trees parts)) (sym c.deref.ensures.value) in
    subst IsAnchored (sym is) (c.is_anchored_list.ensures holds)

pub is_anchored_other-returns-in-CaptureGroup : goal.is_anchored_other-returns-in-CaptureGroup
is_anchored_other-returns-in-CaptureGroup t c = λ holds.
    let at = c.in-CaptureGroup in
    let name = option_map string_bytes at.name in
    let body = c.deref-in-CaptureGroup.result.now in
    let is : tree c.args.node.now ≡ wrapped (capture_group at.id name) (tree body) =
    ap tree at.is ∙ tree-CaptureGroup at.id at.contents at.name
    ∙ ap (λ n. wrapped (capture_group at.id name) (tree n)) (sym c.deref-in-CaptureGroup.ensures) in
    subst IsAnchored (sym is) (anchored-group at.id name (tree body) (c.is_anchored.ensures holds))

pub is_anchored_other-returns-in-Anchor : goal.is_anchored_other-returns-in-Anchor
is_anchored_other-returns-in-Anchor t c = λ holds.
    let at = c.in-Anchor in
    subst IsAnchored (sym (ap tree at.is ∙ tree-Anchor at.anchor_type at.multiline))
    (anchored-leaf at.anchor_type at.multiline (sym c.is_start.ensures ∙ holds))
