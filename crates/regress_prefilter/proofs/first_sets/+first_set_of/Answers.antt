use Rattle.std.proofs.Common.{rules, arith, ◌≡◌, ◌<◌, ◌+◌, ◌++◌, ◌∷◌, [], ◌∙◌, false, length, take, drop, ap, sym, subst}
use Rattle.std.specs.Prelude.{IfSome, option_map, string_bytes}
use Rattle.std.proofs.lemmas.List.{take_all, take_more, take-append-drop}
use Rattle.regress_tree.specs.Tree.{Tree, Trees, tree, trees, cat, wrapped, capture_group, lookaround}
use Rattle.regress_tree.specs.declared.ir.node.Node.{the_lemmas}
use Rattle.regress_tree.proofs.lemmas.Nesting.{alt_of}
use Rattle.regress_tree.proofs.lemmas.Nodes.{tree-Cat, tree-CaptureGroup, tree-LookaroundAssertion}
use Rattle.regress_tree.proofs.lemmas.Lists.{trees-append}
use Rattle.regress_prefilter.specs.FirstSets.{IsFirstSet}
use Rattle.regress_prefilter.proofs.FirstSetLemmas.{IsSpine, spine-start, spine-next, spine-last, list-next, list-rest, if-some, front-capture, front-look}
use Rattle.regress_prefilter.proofs.first_sets.+first_set_of.Goals as goal

pub first_set_of-loop-node-init : goal.first_set_of-loop-node-init
first_set_of-loop-node-init t c = record { smaller = omega arith; so_far = spine-start _ (tree c.args.node.now) }

pub first_set_of-loop-node-preserved : goal.first_set_of-loop-node-preserved
first_set_of-loop-node-preserved t c =
    let l = c.loop-node in
    let is = alt_of l.node.now c.in-Alt.left c.in-Alt.right c.deref.result.now c.in-Alt.is c.deref.ensures in
    let so_far = subst (λ x. IsSpine l.all (tree c.args.node.now) x) is l.invariant.so_far in
    record {
      smaller = first_of (search (rules, the_lemmas), grind (arith, the_lemmas));
      so_far = rw c.deref-node.ensures
          (spine-next l.all c.in_ok-first_set_of.field-0 c.or-all.result (tree c.args.node.now) (tree c.deref.result.now) (tree c.in-Alt.right.value)
          c.or-all.ensures so_far c.in_ok-first_set_of.ensures);
    }

pub first_set_of-returns : goal.first_set_of-returns
first_set_of-returns t c =
    let l = c.loop-node in
    spine-last l.all c.in_ok-first_set_of_other.field-0 c.or.result (tree c.args.node.now) (tree l.node.now) c.or.ensures l.invariant.so_far
    c.in_ok-first_set_of_other.ensures

pub first_set_of_other-returns-in-Cat : goal.first_set_of_other-returns-in-Cat
first_set_of_other-returns-in-Cat t c =
    let is : tree c.args.node.now ≡ cat (trees c.deref.result.now) =
    ap tree c.in-Cat.is ∙ tree-Cat c.in-Cat.parts ∙ ap (λ parts. cat (trees parts)) (sym c.deref.ensures.value) in
    subst (λ (x : Tree). IfSome c.first_set_of_list.result (λ front. IsFirstSet front x)) (sym is) c.first_set_of_list.ensures

pub first_set_of_other-returns-in-CaptureGroup : goal.first_set_of_other-returns-in-CaptureGroup
first_set_of_other-returns-in-CaptureGroup t c =
    let at = c.in-CaptureGroup in
    let name = option_map string_bytes at.name in
    let body = c.deref-in-CaptureGroup.result.now in
    let is : tree c.args.node.now ≡ wrapped (capture_group at.id name) (tree body) =
    ap tree at.is ∙ tree-CaptureGroup at.id at.contents at.name
    ∙ ap (λ n. wrapped (capture_group at.id name) (tree n)) (sym c.deref-in-CaptureGroup.ensures) in
    if-some c.first_set_of.result (λ front here. subst (λ (x : Tree). IsFirstSet front x) (sym is) (front-capture front at.id name (tree body) here))
    c.first_set_of.ensures

pub first_set_of_other-returns-in-LookaroundAssertion : goal.first_set_of_other-returns-in-LookaroundAssertion
first_set_of_other-returns-in-LookaroundAssertion t c =
    let at = c.in-LookaroundAssertion in
    let is : tree c.args.node.now ≡ wrapped (lookaround at.negate at.backwards at.start_group at.end_group) (tree at.contents.value) =
    ap tree at.is ∙ tree-LookaroundAssertion at.negate at.backwards at.start_group at.end_group at.contents in
    subst (λ (x : Tree). IsFirstSet c.empty.result x) (sym is)
    (front-look c.empty.result at.negate at.backwards at.start_group at.end_group (tree at.contents.value) c.empty.ensures.through)

pub first_set_of_list-returns-then-not-all : goal.first_set_of_list-returns-then-not-all
first_set_of_list-returns-then-not-all t c =
    let l = c.loop-part in
    let ps = c.args.parts.now in
    let off : l.all.through ≡ false = first_of (search rules, grind arith) in
    subst (λ (nodes : Trees). IsFirstSet l.all (cat nodes)) (sym (trees-append (take l.part-index ps) (drop l.part-index ps)) ∙ ap trees
    (take-append-drop l.part-index ps))
    (list-rest l.all (trees (take l.part-index ps)) (trees (drop l.part-index ps)) off l.invariant)

pub first_set_of_list-loop-part-preserved : goal.first_set_of_list-loop-part-preserved
first_set_of_list-loop-part-preserved t c =
    let l = c.loop-part in
    let ps = c.args.parts.now in
    let in_list : l.part-index < length ps = search rules in
    let node = c.part-item.result in
    let more : trees (take (l.part-index + 1) ps) ≡ _ =
    ap trees (take_more ps l.part-index node in_list ∙ ap (λ n. take l.part-index ps ++ n ∷ []) (sym c.part-item.is))
    ∙ trees-append (take l.part-index ps) (node ∷ []) in
    subst (λ (nodes : Trees). IsFirstSet c.then-all.result (cat nodes)) (sym more)
    (list-next l.all c.in_ok-first_set_of.field-0 c.then-all.result (trees (take l.part-index ps)) (tree node) c.then-all.ensures l.invariant
    c.in_ok-first_set_of.ensures)

pub first_set_of_list-returns : goal.first_set_of_list-returns
first_set_of_list-returns t c =
    let l = c.loop-part in
    let ps = c.args.parts.now in
    subst (λ nodes. IsFirstSet l.all (cat (trees nodes))) (take_all l.part-index ps (omega (arith, c.loop-part-test.false))) l.invariant
