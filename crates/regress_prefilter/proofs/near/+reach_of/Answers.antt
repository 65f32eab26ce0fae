use Rattle.std.proofs.Common.{rules, arith, ◌≡◌, ◌<◌, ◌+◌, ◌++◌, ◌∷◌, [], ◌∙◌, length, take, ap, sym, subst}
use Rattle.std.specs.Prelude.{option_map, string_bytes}
use Rattle.std.proofs.lemmas.List.{take_all, take_more}
use Rattle.regress_tree.specs.Matching.{steps}
use Rattle.regress_tree.specs.Reading.{forwards}
use Rattle.regress_tree.specs.Tree.{Tree, Trees, tree, trees, cat, wrapped, capture_group, loop, loop_one, lookaround}
use Rattle.regress_tree.specs.declared.ir.node.Node.{the_lemmas}
use Rattle.regress_tree.proofs.lemmas.Lists.{trees-append}
use Rattle.regress_tree.proofs.lemmas.Nesting.{alt_of}
use Rattle.regress_tree.proofs.lemmas.Nodes.{tree-Cat, tree-CaptureGroup, tree-Loop, tree-Loop1CharBody, tree-LookaroundAssertion}
use Rattle.regress_prefilter.specs.Near.{IsReach, IsReachOf}
use Rattle.regress_prefilter.proofs.NearLemmas.{IsReachSpine, at_most_look, reach_capture, reach_next, spine_last, spine_next, spine_start}
use Rattle.regress_prefilter.proofs.RequiredLemmas.{takes_none}
use Rattle.regress_prefilter.proofs.near.+reach_of.Goals as goal

pub reach_of-loop-last-init : goal.reach_of-loop-last-init
reach_of-loop-last-init t c =
    let left = c.deref.result.now in
    let right = c.deref-last.result.now in
    let is = alt_of c.args.node.now c.in-Alt.left c.in-Alt.right left c.in-Alt.is c.deref.ensures in
    let first = spine_start c.reach_of-all.result (tree left) (tree c.in-Alt.right.value) c.reach_of-all.ensures in
    record {
      smaller = first_of (search (rules, the_lemmas), grind (arith, the_lemmas));
      so_far = rw c.deref-last.ensures (subst (λ whole. IsReachSpine c.reach_of-all.result whole (tree c.in-Alt.right.value)) (sym is) first);
    }

pub reach_of-loop-last-preserved : goal.reach_of-loop-last-preserved
reach_of-loop-last-preserved t c =
    let l = c.loop-last in
    let left = c.deref-in-Alt-last.result.now in
    let whole = tree c.args.node.now in
    let is = alt_of l.last.now c.in-Alt-last.left c.in-Alt-last.right left c.in-Alt-last.is c.deref-in-Alt-last.ensures in
    let so_far = subst (λ x. IsReachSpine l.all whole x) is l.invariant.so_far in
    record {
      smaller = first_of (search (rules, the_lemmas), grind (arith, the_lemmas));
      so_far = rw c.deref-last-in-Alt-last.ensures
          (spine_next l.all c.reach_of.result c.or-all.result whole (tree left) (tree c.in-Alt-last.right.value) c.or-all.ensures so_far c.reach_of.ensures);
    }

pub reach_of-returns : goal.reach_of-returns
reach_of-returns t c =
    let l = c.loop-last in
    spine_last l.all c.reach_of_other-2.result c.or.result (tree c.args.node.now) (tree l.last.now) c.or.ensures l.invariant.so_far c.reach_of_other-2.ensures

pub reach_of_list-loop-part-preserved : goal.reach_of_list-loop-part-preserved
reach_of_list-loop-part-preserved t c =
    let l = c.loop-part in
    let ps = c.args.parts.now in
    let in_list : l.part-index < length ps = search rules in
    let node = c.part-item.result in
    let more : trees (take (l.part-index + 1) ps) ≡ _ =
    ap trees (take_more ps l.part-index node in_list ∙ ap (λ n. take l.part-index ps ++ n ∷ []) (sym c.part-item.is))
    ∙ trees-append (take l.part-index ps) (node ∷ []) in
    subst (λ (nodes : Trees). IsReach c.then-all.result (cat nodes)) (sym more)
    (reach_next l.all c.reach_of.result c.then-all.result (trees (take l.part-index ps)) (tree node) c.then-all.ensures l.invariant c.reach_of.ensures)

pub reach_of_list-returns : goal.reach_of_list-returns
reach_of_list-returns t c =
    let l = c.loop-part in
    let ps = c.args.parts.now in
    subst (λ nodes. IsReach l.all (cat (trees nodes))) (take_all l.part-index ps (omega (arith, c.loop-part-test.false))) l.invariant

pub reach_of_other-returns-in-Cat : goal.reach_of_other-returns-in-Cat
reach_of_other-returns-in-Cat t c =
    let is : tree c.args.node.now ≡ cat (trees c.deref.result.now) =
    ap tree c.in-Cat.is ∙ tree-Cat c.in-Cat.parts ∙ ap (λ parts. cat (trees parts)) (sym c.deref.ensures.value) in
    subst (λ (x : Tree). IsReach c.reach_of_list.result x) (sym is) c.reach_of_list.ensures

pub reach_of_other-returns-in-CaptureGroup : goal.reach_of_other-returns-in-CaptureGroup
reach_of_other-returns-in-CaptureGroup t c =
    let at = c.in-CaptureGroup in
    let name = option_map string_bytes at.name in
    let body = c.deref-in-CaptureGroup.result.now in
    let is : tree c.args.node.now ≡ wrapped (capture_group at.id name) (tree body) =
    ap tree at.is ∙ tree-CaptureGroup at.id at.contents at.name
    ∙ ap (λ n. wrapped (capture_group at.id name) (tree n)) (sym c.deref-in-CaptureGroup.ensures) in
    subst (λ (x : Tree). IsReach c.reach_of.result x) (sym is) (reach_capture c.reach_of.result at.id name (tree body) c.reach_of.ensures)

pub reach_of_other-returns-in-Loop : goal.reach_of_other-returns-in-Loop
reach_of_other-returns-in-Loop t c = λ setting bytes.
    let at = c.in-Loop in
    let body = tree c.deref-in-Loop.result.now in
    let groups = at.enclosed_groups in
    let is : tree c.args.node.now ≡ wrapped (loop at.quant groups.start groups.end) body =
    ap tree at.is ∙ tree-Loop at.loopee at.quant groups ∙ ap (λ n. wrapped (loop at.quant groups.start groups.end) (tree n)) (sym c.deref-in-Loop.ensures) in
    subst (λ (x : Tree). IsReachOf c.repeated.result bytes (steps setting bytes forwards x)) (sym is)
    (c.repeated.ensures bytes (steps setting bytes forwards body) (length bytes + 1) groups.start groups.end (c.reach_of-in-Loop.ensures setting bytes))

pub reach_of_other-returns-in-Loop1CharBody : goal.reach_of_other-returns-in-Loop1CharBody
reach_of_other-returns-in-Loop1CharBody t c = λ setting bytes.
    let at = c.in-Loop1CharBody in
    let body = tree c.deref-in-Loop1CharBody.result.now in
    let is : tree c.args.node.now ≡ wrapped (loop_one at.quant) body =
    ap tree at.is ∙ tree-Loop1CharBody at.loopee at.quant ∙ ap (λ n. wrapped (loop_one at.quant) (tree n)) (sym c.deref-in-Loop1CharBody.ensures) in
    subst (λ (x : Tree). IsReachOf c.repeated-in-Loop1CharBody.result bytes (steps setting bytes forwards x)) (sym is)
    (c.repeated-in-Loop1CharBody.ensures bytes (steps setting bytes forwards body) (length bytes + 1) 0 0 (c.reach_of-in-Loop1CharBody.ensures setting bytes))

pub reach_of_other-returns-in-LookaroundAssertion : goal.reach_of_other-returns-in-LookaroundAssertion
reach_of_other-returns-in-LookaroundAssertion t c = λ setting bytes.
    let at = c.in-LookaroundAssertion in
    let whole = wrapped (lookaround at.negate at.backwards at.start_group at.end_group) (tree at.contents.value) in
    let is : tree c.args.node.now ≡ whole = ap tree at.is ∙ tree-LookaroundAssertion at.negate at.backwards at.start_group at.end_group at.contents in
    subst (λ (x : Tree). IsReachOf c.up_to.result bytes (steps setting bytes forwards x)) (sym is)
    (c.up_to.ensures bytes (steps setting bytes forwards whole) (takes_none whole setting bytes) (at_most_look at.negate _))
