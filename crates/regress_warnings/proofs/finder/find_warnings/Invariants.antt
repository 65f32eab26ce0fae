-- What is found, and what is warned of in the remaining nodes, is what is warned of in all.
use Rattle.std.proofs.Common.{drop}
use Rattle.std.specs.List.{zip}
use Rattle.regress_spans.specs.Children.{trees_at}
use Rattle.regress_warnings.proofs.StepLemmas.{Walks}
use Rattle.regress_warnings.proofs.finder.find_warnings.Given as goal

abbrev pub invariant-loop-node : goal.invariant-loop-node
invariant-loop-node l =
    Walks l.fn.sets l.fn.pattern (zip (trees_at l.nodes) l.fn.spans) l.finder l.previous (zip (trees_at (drop l.node-index l.nodes)) l.spans)
