-- the nodes so far
use Rattle.std.proofs.Common.{◌≡◌, ◌++◌, drop}
use Rattle.regress_tree.specs.Tree.{trees}
use Rattle.regress_spans.specs.Children.{parts_of, trees_at}
use Rattle.regress_spans.proofs.postorder.push_all.Given as goal

abbrev pub invariant-loop-part : goal.invariant-loop-part
invariant-loop-part l =
    trees_at l.nodes.items ++ parts_of (trees (drop l.part-index l.parts)) ≡ trees_at l.initial.nodes.items ++ parts_of (trees l.parts)
