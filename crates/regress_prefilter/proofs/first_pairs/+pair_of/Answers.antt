use Rattle.std.proofs.Common.{rules, arith, ◌≡◌, ◌<◌, ◌+◌, ◌++◌, ◌∷◌, [], ◌∙◌, false, refl, length, take, drop, ap, sym, subst}
use Rattle.std.specs.Prelude.{IfSome, option_map, string_bytes}
use Rattle.std.proofs.lemmas.List.{take_all, take_more, take-append-drop}
use Rattle.regress_tree.specs.Tree.{Tree, Trees, tree, trees, cat, wrapped, capture_group, loop, loop_one, lookaround}
use Rattle.regress_tree.specs.Matching.{steps}
use Rattle.regress_tree.specs.Reading.{forwards}
use Rattle.regress_tree.specs.declared.ir.node.Node.{the_lemmas}
use Rattle.regress_tree.proofs.lemmas.Nesting.{alt_of}
use Rattle.regress_tree.proofs.lemmas.Nodes.{tree-Cat, tree-CaptureGroup, tree-Loop, tree-Loop1CharBody, tree-LookaroundAssertion}
use Rattle.regress_tree.proofs.lemmas.Lists.{trees-append}
use Rattle.regress_prefilter.specs.FirstPairs.{IsFirstPair, IsFirstPairOf}
use Rattle.regress_prefilter.proofs.FirstSetLemmas.{if-some}
use Rattle.regress_prefilter.proofs.FirstPairLemmas.{IsPairSpine, pair-spine-start, pair-spine-next, pair-spine-last, pair-list-next, pair-list-rest, pair-capture, pair-look}
use Rattle.regress_prefilter.proofs.first_pairs.+pair_of.Goals as goal

pub pair_of-loop-node-init : goal.pair_of-loop-node-init
pair_of-loop-node-init t c = record { smaller = omega arith; so_far = pair-spine-start _ (tree c.args.node.now) }

pub pair_of-loop-node-preserved : goal.pair_of-loop-node-preserved
pair_of-loop-node-preserved t c =
    let l = c.loop-node in
    let is = alt_of l.node.now c.in-Alt.left c.in-Alt.right c.deref.result.now c.in-Alt.is c.deref.ensures in
    let so_far = subst (λ x. IsPairSpine l.all (tree c.args.node.now) x) is l.invariant.so_far in
    record {
      smaller = first_of (search (rules, the_lemmas), grind (arith, the_lemmas));
      so_far = rw c.deref-node.ensures
          (pair-spine-next l.all c.in_ok-pair_of.field-0 c.or-all.result (tree c.args.node.now) (tree c.deref.result.now) (tree c.in-Alt.right.value)
          c.or-all.ensures so_far c.in_ok-pair_of.ensures);
    }

pub pair_of-returns : goal.pair_of-returns
pair_of-returns t c =
    let l = c.loop-node in
    pair-spine-last l.all c.in_ok-pair_of_other.field-0 c.or.result (tree c.args.node.now) (tree l.node.now) c.or.ensures l.invariant.so_far
    c.in_ok-pair_of_other.ensures

pub pair_of_other-returns-in-Cat : goal.pair_of_other-returns-in-Cat
pair_of_other-returns-in-Cat t c =
    let is : tree c.args.node.now ≡ cat (trees c.deref.result.now) =
    ap tree c.in-Cat.is ∙ tree-Cat c.in-Cat.parts ∙ ap (λ parts. cat (trees parts)) (sym c.deref.ensures.value) in
    subst (λ (x : Tree). IfSome c.pair_of_list.result (λ front. IsFirstPair front x)) (sym is) c.pair_of_list.ensures

pub pair_of_other-returns-in-CaptureGroup : goal.pair_of_other-returns-in-CaptureGroup
pair_of_other-returns-in-CaptureGroup t c =
    let at = c.in-CaptureGroup in
    let name = option_map string_bytes at.name in
    let body = c.deref-in-CaptureGroup.result.now in
    let is : tree c.args.node.now ≡ wrapped (capture_group at.id name) (tree body) =
    ap tree at.is ∙ tree-CaptureGroup at.id at.contents at.name
    ∙ ap (λ n. wrapped (capture_group at.id name) (tree n)) (sym c.deref-in-CaptureGroup.ensures) in
    if-some c.pair_of.result (λ front here. subst (λ (x : Tree). IsFirstPair front x) (sym is) (pair-capture front at.id name (tree body) here))
    c.pair_of.ensures

pub pair_of_other-returns-in_ok-pair_of-in-Loop : goal.pair_of_other-returns-in_ok-pair_of-in-Loop
pair_of_other-returns-in_ok-pair_of-in-Loop t c = λ setting bytes.
    let at = c.in-Loop in
    let body = tree c.deref-in-Loop.result.now in
    let groups = at.enclosed_groups in
    let is : tree c.args.node.now ≡ wrapped (loop at.quant groups.start groups.end) body =
    ap tree at.is ∙ tree-Loop at.loopee at.quant groups ∙ ap (λ n. wrapped (loop at.quant groups.start groups.end) (tree n)) (sym c.deref-in-Loop.ensures) in
    subst (λ (x : Tree). IsFirstPairOf c.repeated.result bytes (steps setting bytes forwards x)) (sym is)
    (c.repeated.ensures bytes (steps setting bytes forwards body) at.quant (length bytes + 1) groups.start groups.end refl
    (c.in_ok-pair_of-in-Loop.ensures setting bytes))

pub pair_of_other-returns-in_ok-pair_of-in-Loop1CharBody : goal.pair_of_other-returns-in_ok-pair_of-in-Loop1CharBody
pair_of_other-returns-in_ok-pair_of-in-Loop1CharBody t c = λ setting bytes.
    let at = c.in-Loop1CharBody in
    let body = tree c.deref-in-Loop1CharBody.result.now in
    let is : tree c.args.node.now ≡ wrapped (loop_one at.quant) body =
    ap tree at.is ∙ tree-Loop1CharBody at.loopee at.quant ∙ ap (λ n. wrapped (loop_one at.quant) (tree n)) (sym c.deref-in-Loop1CharBody.ensures) in
    subst (λ (x : Tree). IsFirstPairOf c.repeated-in-Loop1CharBody.result bytes (steps setting bytes forwards x)) (sym is)
    (c.repeated-in-Loop1CharBody.ensures bytes (steps setting bytes forwards body) at.quant (length bytes + 1) 0 0 refl
    (c.in_ok-pair_of-in-Loop1CharBody.ensures setting bytes))

pub pair_of_other-returns-in-LookaroundAssertion : goal.pair_of_other-returns-in-LookaroundAssertion
pair_of_other-returns-in-LookaroundAssertion t c =
    let at = c.in-LookaroundAssertion in
    let is : tree c.args.node.now ≡ wrapped (lookaround at.negate at.backwards at.start_group at.end_group) (tree at.contents.value) =
    ap tree at.is ∙ tree-LookaroundAssertion at.negate at.backwards at.start_group at.end_group at.contents in
    subst (λ (x : Tree). IsFirstPair c.empty.result x) (sym is)
    (pair-look c.empty.result at.negate at.backwards at.start_group at.end_group (tree at.contents.value) c.empty.ensures.empty)

pub pair_of_list-returns-then-not-all-2 : goal.pair_of_list-returns-then-not-all-2
pair_of_list-returns-then-not-all-2 t c =
    let l = c.loop-part in
    let ps = c.args.parts.now in
    let nonempty : l.all.empty ≡ false = first_of (search rules, grind arith) in
    let long : l.all.single ≡ false = first_of (search rules, grind arith) in
    subst (λ (nodes : Trees). IsFirstPair l.all (cat nodes)) (sym (trees-append (take l.part-index ps) (drop l.part-index ps)) ∙ ap trees
    (take-append-drop l.part-index ps))
    (pair-list-rest l.all (trees (take l.part-index ps)) (trees (drop l.part-index ps)) nonempty long l.invariant)

pub pair_of_list-loop-part-preserved : goal.pair_of_list-loop-part-preserved
pair_of_list-loop-part-preserved t c =
    let l = c.loop-part in
    let ps = c.args.parts.now in
    let in_list : l.part-index < length ps = search rules in
    let node = c.part-item.result in
    let more : trees (take (l.part-index + 1) ps) ≡ _ =
    ap trees (take_more ps l.part-index node in_list ∙ ap (λ n. take l.part-index ps ++ n ∷ []) (sym c.part-item.is))
    ∙ trees-append (take l.part-index ps) (node ∷ []) in
    subst (λ (nodes : Trees). IsFirstPair c.then-all.result (cat nodes)) (sym more)
    (pair-list-next l.all c.in_ok-pair_of.field-0 c.then-all.result (trees (take l.part-index ps)) (tree node) c.then-all.ensures l.invariant
    c.in_ok-pair_of.ensures)

pub pair_of_list-returns : goal.pair_of_list-returns
pair_of_list-returns t c =
    let l = c.loop-part in
    let ps = c.args.parts.now in
    subst (λ nodes. IsFirstPair l.all (cat (trees nodes))) (take_all l.part-index ps (omega (arith, c.loop-part-test.false))) l.invariant
