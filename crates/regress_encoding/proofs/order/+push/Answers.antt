-- The numbers of the nodes inside a node are appended after a place for its own.
use Rattle.std.proofs.Common.{◌≡◌, rules, arith, ◌+◌, ◌++◌, [], drop, sym, ap, ◌∙◌, subst}
use Rattle.std.proofs.lemmas.Result.{err_from_is_err_and}
use Rattle.regress_tree.specs.Tree.{tree, trees, cat, alt}
use Rattle.regress_tree.specs.Visits.{nodes, nodes_in_list}
use Rattle.regress_tree.specs.declared.ir.node.Node.{the_lemmas}
use Rattle.regress_tree.proofs.lemmas.Nodes.{leaf_of}
use Rattle.regress_encoding.specs.Order.{numbers_in_list, numbers_of}
use Rattle.regress_encoding.proofs.OrderLemmas.{IsOpen, counts, ended, enters-alt, enters-body, enters-cat, enters-leaf, next_part, one_each, one_each-list, passed, sets}
use Rattle.regress_encoding.proofs.order.+push.Goals as goal

pub push_open-returns-in-Cat : goal.push_open-returns-in-Cat
push_open-returns-in-Cat t c =
    let now = c.loop-indices in
    let parts = trees c.in-Cat.parts.items in
    let is : tree now.node.now ≡ cat parts = search (rules, the_lemmas) in
    let inside = enters-cat now.numbers.items now.indices.items now.next (tree now.node.now) now.invariant.remains
    c.push-in-loop-indices.new.self.items c.push.new.self.items c.len.result c.in_ok-push-2.ensures.items c.in_ok-push.ensures.items
    (c.len.ensures ∙ now.numbers.ok.0) parts is in
    let same : trees c.deref.result.now ≡ parts = ap trees c.deref.ensures.value in
    let end = ended c.push-in-loop-indices.new.self.items c.push.new.self.items now.next c.push_trees.new.numbers.items c.push_trees.new.next
    (numbers_in_list now.next parts) (nodes_in_list parts)
    (c.in_ok-push_trees-in-Cat.ensures.numbers ∙ ap (λ ts. c.push-in-loop-indices.new.self.items ++ numbers_in_list now.next ts) same)
    (c.in_ok-push_trees-in-Cat.ensures.next ∙ ap (λ ts. now.next + nodes_in_list ts) same) (one_each-list now.next parts) inside in
    record {
      numbers = sets c.push_trees.new.numbers.items c.push.new.self.items c.push_trees.new.next end;
      next = counts c.push_trees.new.numbers.items c.push.new.self.items c.push_trees.new.next end;
      within = end.within;
      few = end.few;
    }

pub push_open-loop-indices-preserved-in-Alt : goal.push_open-loop-indices-preserved-in-Alt
push_open-loop-indices-preserved-in-Alt t c =
    let now = c.loop-indices in
    let whole = c.args.numbers.now.items ++ numbers_of c.args.next.now (tree c.args.node.now) in
    let total = c.args.next.now + nodes (tree c.args.node.now) in
    let left = tree c.in-Alt.left.value in
    let right = tree c.in-Alt.right.value in
    let is : tree now.node.now ≡ alt left right = search (rules, the_lemmas) in
    let inside = enters-alt now.numbers.items now.indices.items now.next (tree now.node.now) now.invariant.remains
    c.push-in-loop-indices.new.self.items c.push.new.self.items c.len.result c.in_ok-push-2.ensures.items c.in_ok-push.ensures.items
    (c.len.ensures ∙ now.numbers.ok.0) left right is in
    record {
      smaller = first_of (search (rules, the_lemmas), grind (arith, the_lemmas));
      remains =
          subst (λ node. IsOpen whole total c.push_tree.new.numbers.items c.push.new.self.items c.push_tree.new.next (nodes (tree node))
          (numbers_of c.push_tree.new.next (tree node))) (sym c.deref-node.ensures)
          (passed c.push-in-loop-indices.new.self.items c.push.new.self.items now.next c.push_tree.new.numbers.items c.push_tree.new.next
          (numbers_of now.next left) (nodes left)
          (c.in_ok-push_tree-in-Alt.ensures.numbers ∙ ap (λ n. c.push-in-loop-indices.new.self.items ++ numbers_of now.next (tree n)) c.deref-in-Alt.ensures)
          (c.in_ok-push_tree-in-Alt.ensures.next ∙ ap (λ n. now.next + nodes (tree n)) c.deref-in-Alt.ensures) (one_each now.next left)
          (nodes right) (λ next. numbers_of next right) inside);
    }

pub push_open-returns-in_default-body : goal.push_open-returns-in_default-body
push_open-returns-in_default-body t c =
    let now = c.loop-indices in
    let leaf = leaf_of now.node.now c.in_default.not-Cat c.in_default.not-Alt c.in_default-body.ensures.body in
    let end = enters-leaf now.numbers.items now.indices.items now.next (tree now.node.now) now.invariant.remains
    c.push-in-loop-indices.new.self.items c.push.new.self.items c.len.result c.in_ok-push-2.ensures.items c.in_ok-push.ensures.items
    (c.len.ensures ∙ now.numbers.ok.0) leaf in
    record {
      numbers = sets c.push-in-loop-indices.new.self.items c.push.new.self.items now.next end;
      next = counts c.push-in-loop-indices.new.self.items c.push.new.self.items now.next end;
      within = end.within;
      few = end.few;
    }

pub push_open-loop-indices-preserved : goal.push_open-loop-indices-preserved
push_open-loop-indices-preserved t c =
    let now = c.loop-indices in
    record {
      smaller = first_of (search (rules, the_lemmas), grind (arith, the_lemmas));
      remains =
          enters-body now.numbers.items now.indices.items now.next (tree now.node.now) now.invariant.remains
          c.push-in-loop-indices.new.self.items c.push.new.self.items c.len.result c.in_ok-push-2.ensures.items c.in_ok-push.ensures.items
          (c.len.ensures ∙ now.numbers.ok.0) (tree c.in-Some.body.now) c.in-Some.ensures.body;
    }

pub push_trees-loop-part-preserved : goal.push_trees-loop-part-preserved
push_trees-loop-part-preserved t c =
    let now = c.loop-part in
    let part = tree c.part-item.result in
    let others = trees (drop (now.part-index + 1) c.args.parts.now) in
    let whole = c.args.numbers.now.items ++ numbers_in_list c.args.next.now (trees c.args.parts.now) in
    let total = c.args.next.now + nodes_in_list (trees c.args.parts.now) in
    passed now.numbers.items [] now.next c.push_tree.new.numbers.items c.push_tree.new.next (numbers_of now.next part) (nodes part)
    c.in_ok-push_tree.ensures.numbers c.in_ok-push_tree.ensures.next (one_each now.next part) (nodes_in_list others)
    (λ next. numbers_in_list next others)
    (subst (λ nodes. IsOpen whole total now.numbers.items [] now.next (nodes_in_list (trees nodes)) (numbers_in_list now.next (trees nodes)))
    (next_part c.args.parts.now now.part-index c.part-item.result c.loop-part-test.true c.part-item.is) now.invariant)

pub push_open-returns-in_err-push : goal.push_open-returns-in_err-push
push_open-returns-in_err-push t c =
    let p = err_from_is_err_and c.from_residual.result c.from_residual.ensures.1 in
    record { numbers = rw p.1 tt; next = rw p.1 tt; within = rw p.1 tt; few = rw p.1 tt }

pub push_open-returns-in_err-push-2 : goal.push_open-returns-in_err-push-2
push_open-returns-in_err-push-2 t c =
    let p = err_from_is_err_and c.from_residual-in_err-push-2.result c.from_residual-in_err-push-2.ensures.1 in
    record { numbers = rw p.1 tt; next = rw p.1 tt; within = rw p.1 tt; few = rw p.1 tt }

pub push_open-returns-in_err-push_trees-in-Cat : goal.push_open-returns-in_err-push_trees-in-Cat
push_open-returns-in_err-push_trees-in-Cat t c =
    let p = err_from_is_err_and c.from_residual-in_err-push_trees-in-Cat.result c.from_residual-in_err-push_trees-in-Cat.ensures.1 in
    record { numbers = rw p.1 tt; next = rw p.1 tt; within = rw p.1 tt; few = rw p.1 tt }

pub push_open-returns-in_err-push_tree-in-Alt : goal.push_open-returns-in_err-push_tree-in-Alt
push_open-returns-in_err-push_tree-in-Alt t c =
    let p = err_from_is_err_and c.from_residual-in_err-push_tree-in-Alt.result c.from_residual-in_err-push_tree-in-Alt.ensures.1 in
    record { numbers = rw p.1 tt; next = rw p.1 tt; within = rw p.1 tt; few = rw p.1 tt }

pub push_tree-returns-in_err-indices : goal.push_tree-returns-in_err-indices
push_tree-returns-in_err-indices t c =
    let p = err_from_is_err_and c.from_residual.result c.from_residual.ensures.1 in
    record { numbers = rw p.1 tt; next = rw p.1 tt }

pub push_trees-returns-in_err-push_tree : goal.push_trees-returns-in_err-push_tree
push_trees-returns-in_err-push_tree t c =
    let p = err_from_is_err_and c.from_residual.result c.from_residual.ensures.1 in
    record { numbers = rw p.1 tt; next = rw p.1 tt }
