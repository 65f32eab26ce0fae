use Rattle.std.proofs.Common.{ap, refl, not, arith, rules}
use Rattle.std.proofs.lemmas.Grind.{common_steps}
use Rattle.std.specs.List.{zip}
use Rattle.regress_tree.specs.Tree.{tree}
use Rattle.regress_spans.specs.Children.{trees_at}
use Rattle.regress_spans.proofs.lemmas.Zipped.{next, no_nodes}
use Rattle.regress_warnings.proofs.StepLemmas.{at_first, one_more, ended}
use Rattle.regress_warnings.proofs.finder.find_warnings.Goals as goal

pub loop-node-init : goal.loop-node-init
loop-node-init c = at_first c.args.sets c.args.pattern.now _ _ refl refl c.new.ensures.items c.new-2.ensures.items

pub loop-node-preserved : goal.loop-node-preserved
loop-node-preserved c =
    let all = zip (trees_at c.args.nodes.now) c.args.spans.now in
    one_more c.args.sets c.args.pattern.now all c.loop-node.finder c.warn.new.self c.close.new.self c.loop-node.previous (tree c.node-item.result.now)
    _ _ _ _ c.loop-node.invariant
    (next c.args.nodes.now c.loop-node.node-index c.node-item.result c.loop-node.spans.now _ _ c.loop-node-test.true c.node-item.is
    (first_of (search rules, grind (arith, common_steps))))
    (ap (λ b. not b) c.is_span-is_first.ensures) c.in_ok-warn.ensures.adds c.in_ok-close.ensures.closes

pub returns : goal.returns
returns c =
    ended c.args.sets c.args.pattern.now (zip (trees_at c.args.nodes.now) c.args.spans.now) c.loop-node.finder c.loop-node.previous _
    (no_nodes c.args.nodes.now c.loop-node.node-index c.loop-node.spans.now c.loop-node-test.false) c.loop-node.invariant
