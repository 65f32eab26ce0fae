-- A copied part, and the list that it is in.
use Rattle.std.proofs.Common.{rules, sym, ap, ◌∙◌}
use Rattle.std.proofs.lemmas.List.{drop_all}
use Rattle.std.proofs.lemmas.Result.{IfOk-from_err}
use Rattle.regress_tree.specs.declared.ir.node.Node.{the_lemmas}
use Rattle.regress_tree.specs.Tree.{tree, trees, list}
use Rattle.regress_tree.specs.Duplicates.{may_duplicate_list}
use Rattle.regress_tree.proofs.LoopLemmas.{copied_next, copied_all}
use Rattle.regress_tree.proofs.DuplicateLemmas.{have_no_group, still_next, rejected}
use Rattle.regress_tree.proofs.ir.copies.+duplicate.Goals as goal

pub duplicate_nodes-duplicate_node-requires : goal.duplicate_nodes-duplicate_node-requires
duplicate_nodes-duplicate_node-requires t c =
    let l = c.loop-node in
    (search (rules, the_lemmas), (have_no_group c.args.nodes.now l.node-index c.node-item.result c.loop-node-test.true c.node-item.is l.invariant.groups).0)

pub duplicate_nodes-loop-node-preserved : goal.duplicate_nodes-loop-node-preserved
duplicate_nodes-loop-node-preserved t c =
    let l = c.loop-node in
    let nodes = c.args.nodes.now in
    let node = c.node-item.result in
    let in_list = c.loop-node-test.true in
    let is = c.node-item.is in
    record {
      copied =
          rw c.in_ok-push-in-Some.ensures.items
          (copied_next tree nodes l.node-index l.copies.items l.invariant.copied node c.in-Some.copy in_list is (rw c.in-Some.is at c.in_ok-copy.ensures.copy));
      still = still_next nodes l.node-index node in_list is c.args.depth l.invariant.still (rw c.in-Some.is at c.in_ok-copy.ensures.some);
      groups = (have_no_group nodes l.node-index node in_list is l.invariant.groups).1;
    }

pub duplicate_nodes-returns-in-None-clause-some : goal.duplicate_nodes-returns-in-None-clause-some
duplicate_nodes-returns-in-None-clause-some t c =
    let l = c.loop-node in
    rejected c.args.nodes.now l.node-index c.node-item.result c.loop-node-test.true c.node-item.is c.args.depth l.invariant.still
    (rw c.in-None.is at c.in_ok-copy.ensures.some)

pub duplicate_nodes-returns-clause-copy : goal.duplicate_nodes-returns-clause-copy
duplicate_nodes-returns-clause-copy t c =
    let l = c.loop-node in
    ap list (copied_all tree c.args.nodes.now l.node-index l.copies.items l.invariant.copied c.loop-node-test.false)

pub duplicate_nodes-returns-clause-some : goal.duplicate_nodes-returns-clause-some
duplicate_nodes-returns-clause-some t c =
    let l = c.loop-node in
    ap (λ nodes. may_duplicate_list c.args.depth (trees nodes)) (sym (drop_all l.node-index c.args.nodes.now c.loop-node-test.false)) ∙ l.invariant.still

pub duplicate_nodes-returns-in_err-push-in-Some-clause-copy : goal.duplicate_nodes-returns-in_err-push-in-Some-clause-copy
duplicate_nodes-returns-in_err-push-in-Some-clause-copy t c = IfOk-from_err _ _ c.from_residual-in_err-push-in-Some.ensures.0

pub duplicate_nodes-returns-in_err-push-in-Some-clause-some : goal.duplicate_nodes-returns-in_err-push-in-Some-clause-some
duplicate_nodes-returns-in_err-push-in-Some-clause-some t c = IfOk-from_err _ _ c.from_residual-in_err-push-in-Some.ensures.0

pub duplicate_nodes-returns-in_err-copy-clause-copy : goal.duplicate_nodes-returns-in_err-copy-clause-copy
duplicate_nodes-returns-in_err-copy-clause-copy t c = IfOk-from_err _ _ c.from_residual-in_err-copy.ensures.0

pub duplicate_nodes-returns-in_err-copy-clause-some : goal.duplicate_nodes-returns-in_err-copy-clause-some
duplicate_nodes-returns-in_err-copy-clause-some t c = IfOk-from_err _ _ c.from_residual-in_err-copy.ensures.0

pub duplicate_nodes-returns-in_err-copies-clause-copy : goal.duplicate_nodes-returns-in_err-copies-clause-copy
duplicate_nodes-returns-in_err-copies-clause-copy t c = IfOk-from_err _ _ c.from_residual.ensures.0

pub duplicate_nodes-returns-in_err-copies-clause-some : goal.duplicate_nodes-returns-in_err-copies-clause-some
duplicate_nodes-returns-in_err-copies-clause-some t c = IfOk-from_err _ _ c.from_residual.ensures.0

pub duplicate_box-returns-in_err-copy-clause-copy : goal.duplicate_box-returns-in_err-copy-clause-copy
duplicate_box-returns-in_err-copy-clause-copy t c = IfOk-from_err _ _ c.from_residual.ensures.0

pub duplicate_box-returns-in_err-copy-clause-some : goal.duplicate_box-returns-in_err-copy-clause-some
duplicate_box-returns-in_err-copy-clause-some t c = IfOk-from_err _ _ c.from_residual.ensures.0

pub duplicate_box-returns-in_err-new-in-Some-clause-copy : goal.duplicate_box-returns-in_err-new-in-Some-clause-copy
duplicate_box-returns-in_err-new-in-Some-clause-copy t c = IfOk-from_err _ _ c.from_residual-in_err-new-in-Some.ensures.0

pub duplicate_box-returns-in_err-new-in-Some-clause-some : goal.duplicate_box-returns-in_err-new-in-Some-clause-some
duplicate_box-returns-in_err-new-in-Some-clause-some t c = IfOk-from_err _ _ c.from_residual-in_err-new-in-Some.ensures.0

pub duplicate_node-returns-in_err-duplicate_nodes-in-Cat-clause-copy : goal.duplicate_node-returns-in_err-duplicate_nodes-in-Cat-clause-copy
duplicate_node-returns-in_err-duplicate_nodes-in-Cat-clause-copy t c = IfOk-from_err _ _ c.from_residual.ensures.0

pub duplicate_node-returns-in_err-duplicate_nodes-in-Cat-clause-some : goal.duplicate_node-returns-in_err-duplicate_nodes-in-Cat-clause-some
duplicate_node-returns-in_err-duplicate_nodes-in-Cat-clause-some t c = IfOk-from_err _ _ c.from_residual.ensures.0

pub duplicate_node-returns-in_err-left-in-Alt-clause-copy : goal.duplicate_node-returns-in_err-left-in-Alt-clause-copy
duplicate_node-returns-in_err-left-in-Alt-clause-copy t c = IfOk-from_err _ _ c.from_residual-in_err-left-in-Alt.ensures.0

pub duplicate_node-returns-in_err-left-in-Alt-clause-some : goal.duplicate_node-returns-in_err-left-in-Alt-clause-some
duplicate_node-returns-in_err-left-in-Alt-clause-some t c = IfOk-from_err _ _ c.from_residual-in_err-left-in-Alt.ensures.0

pub duplicate_node-returns-in_err-right-in-Alt-clause-copy : goal.duplicate_node-returns-in_err-right-in-Alt-clause-copy
duplicate_node-returns-in_err-right-in-Alt-clause-copy t c = IfOk-from_err _ _ c.from_residual-in_err-right-in-Alt.ensures.0

pub duplicate_node-returns-in_err-right-in-Alt-clause-some : goal.duplicate_node-returns-in_err-right-in-Alt-clause-some
duplicate_node-returns-in_err-right-in-Alt-clause-some t c = IfOk-from_err _ _ c.from_residual-in_err-right-in-Alt.ensures.0

pub duplicate_node-returns-in_err-duplicate_box-in-Loop-clause-copy : goal.duplicate_node-returns-in_err-duplicate_box-in-Loop-clause-copy
duplicate_node-returns-in_err-duplicate_box-in-Loop-clause-copy t c = IfOk-from_err _ _ c.from_residual-in_err-duplicate_box-in-Loop.ensures.0

pub duplicate_node-returns-in_err-duplicate_box-in-Loop-clause-some : goal.duplicate_node-returns-in_err-duplicate_box-in-Loop-clause-some
duplicate_node-returns-in_err-duplicate_box-in-Loop-clause-some t c = IfOk-from_err _ _ c.from_residual-in_err-duplicate_box-in-Loop.ensures.0

pub duplicate_node-returns-in_err-duplicate_box-in-Loop1CharBody-clause-copy : goal.duplicate_node-returns-in_err-duplicate_box-in-Loop1CharBody-clause-copy
duplicate_node-returns-in_err-duplicate_box-in-Loop1CharBody-clause-copy t c = IfOk-from_err _ _ c.from_residual-in_err-duplicate_box-in-Loop1CharBody.ensures.0

pub duplicate_node-returns-in_err-duplicate_box-in-Loop1CharBody-clause-some : goal.duplicate_node-returns-in_err-duplicate_box-in-Loop1CharBody-clause-some
duplicate_node-returns-in_err-duplicate_box-in-Loop1CharBody-clause-some t c = IfOk-from_err _ _ c.from_residual-in_err-duplicate_box-in-Loop1CharBody.ensures.0

pub duplicate_node-returns-in_err-duplicate_box-in-LookaroundAssertion-clause-copy :
    goal.duplicate_node-returns-in_err-duplicate_box-in-LookaroundAssertion-clause-copy
duplicate_node-returns-in_err-duplicate_box-in-LookaroundAssertion-clause-copy t c = IfOk-from_err _ _
    c.from_residual-in_err-duplicate_box-in-LookaroundAssertion.ensures.0

pub duplicate_node-returns-in_err-duplicate_box-in-LookaroundAssertion-clause-some :
    goal.duplicate_node-returns-in_err-duplicate_box-in-LookaroundAssertion-clause-some
duplicate_node-returns-in_err-duplicate_box-in-LookaroundAssertion-clause-some t c = IfOk-from_err _ _
    c.from_residual-in_err-duplicate_box-in-LookaroundAssertion.ensures.0
