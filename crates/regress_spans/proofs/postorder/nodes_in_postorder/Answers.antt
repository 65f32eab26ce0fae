use Rattle.std.proofs.Common.{◌≡◌, ℕ, ◌-◌, ◌++◌, take, reverse, List, [], ◌∷◌, ap, sym, ◌∙◌}
use Rattle.std.proofs.lemmas.List.{map-append}
use Rattle.std.specs.Borrow.{Bor}
use Rattle.regress_tree.specs.Tree.{tree}
use Rattle.regress_tree.specs.declared.ir.node.Node.{Node}
use Rattle.regress_spans.specs.Paired.{postorder}
use Rattle.regress_spans.specs.Children.{children, trees_at}
use Rattle.regress_spans.proofs.lemmas.Postorder.{all_postorder, taken, fewer, map-reverse}
use Rattle.regress_spans.proofs.postorder.nodes_in_postorder.Goals as goal

at-end : (xs ys : List (Bor Node)) (node : Bor Node) → xs ≡ ys ++ node ∷ [] → trees_at xs ≡ trees_at ys ++ tree node.now ∷ []
at-end xs ys node e = ap trees_at e ∙ map-append _ ys (node ∷ [])

pub loop-node-smaller : goal.loop-node-smaller
loop-node-smaller c =
    fewer (trees_at c.loop-node.waiting.items) (trees_at c.pop.new.self.items) (trees_at c.push_children.new.nodes.items) [] [] (tree c.in-Some.node.now)
    (at-end c.loop-node.waiting.items c.pop.new.self.items c.in-Some.node c.in-Some.ensures.items) c.in_ok-push_children.ensures

pub loop-node-preserved : goal.loop-node-preserved
loop-node-preserved c =
    taken (trees_at c.loop-node.waiting.items) (trees_at c.pop.new.self.items) (trees_at c.push_children.new.nodes.items)
    (trees_at c.loop-node.nodes.items) (trees_at c.push-in-Some.new.self.items) (tree c.in-Some.node.now)
    (at-end c.loop-node.waiting.items c.pop.new.self.items c.in-Some.node c.in-Some.ensures.items) c.in_ok-push_children.ensures
    (postorder (tree c.args.root.now))
    (at-end c.push-in-Some.new.self.items c.loop-node.nodes.items c.in-Some.node c.in_ok-push-2.ensures.items)
    c.loop-node.invariant

pub returns : goal.returns
returns c =
    let empty : c.loop-node.waiting.items ≡ [] = c.in_default.ensures.items
    ∙ ap (λ (xs : List (Bor Node)). xs ++ []) (c.in_default.ensures.rest ∙ ap (λ (n : ℕ). take (n - 1) c.loop-node.waiting.items) c.in_default.ensures.cases.0) in
    ap trees_at c.reverse.ensures.items ∙ map-reverse _ c.loop-node.nodes.items
    ∙ sym (ap (λ (xs : List (Bor Node)). all_postorder (trees_at xs) ++ reverse (trees_at c.loop-node.nodes.items)) empty) ∙ c.loop-node.invariant
