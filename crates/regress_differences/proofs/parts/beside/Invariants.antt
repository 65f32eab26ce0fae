-- The nodes so far, and the remaining ones, are all.
use Rattle.std.proofs.Common.{◌≡◌, ◌++◌, drop, map}
use Rattle.std.specs.List.{zip}
use Rattle.regress_spans.specs.Children.{trees_at}
use Rattle.regress_differences.specs.Views.{node_at}
use Rattle.regress_differences.proofs.parts.beside.Given as goal

abbrev pub invariant-loop-node : goal.invariant-loop-node
invariant-loop-node l =
    map node_at l.found.items ++ zip (trees_at (drop l.node-index l.nodes)) l.spans ≡ zip (trees_at l.nodes) l.fn.spans
