-- The alternatives or parts so far reach so far, and the remaining ones follow.
use Rattle.std.proofs.Common.{◌<◌, take}
use Rattle.regress_tree.specs.Tree.{tree, trees, cat}
use Rattle.regress_tree.specs.declared.ir.node.Node.{size-Node}
use Rattle.regress_prefilter.specs.Near.{IsReach}
use Rattle.regress_prefilter.proofs.NearLemmas.{IsReachSpine}
use Rattle.regress_prefilter.proofs.near.+reach_of.Given as goal

abbrev pub invariant-reach_of-loop-last : goal.invariant-reach_of-loop-last
invariant-reach_of-loop-last l = record {
  smaller : size-Node l.last < size-Node l.node;
  so_far : IsReachSpine l.all (tree l.node) (tree l.last);
}

abbrev pub invariant-reach_of_list-loop-part : goal.invariant-reach_of_list-loop-part
invariant-reach_of_list-loop-part l = IsReach l.all (cat (trees (take l.part-index l.parts)))
