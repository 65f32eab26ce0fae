-- What is found, and what is found among the remaining nodes, is all.
use Rattle.std.proofs.Common.{◌≡◌, ◌++◌, drop, map}
use Rattle.regress_differences.specs.Reported.{others_among, part_of}
use Rattle.regress_differences.specs.Views.{node_at, part_at}
use Rattle.regress_differences.proofs.parts.others_among.Given as goal

abbrev pub invariant-loop-node : goal.invariant-loop-node
invariant-loop-node l =
    map part_at l.found.items ++ map part_of (others_among (map node_at (drop l.node-index l.nodes)) (map node_at l.others))
    ≡ map part_of (others_among (map node_at l.nodes) (map node_at l.fn.others))
