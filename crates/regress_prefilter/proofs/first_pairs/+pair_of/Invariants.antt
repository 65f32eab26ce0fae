-- The alternatives or parts so far begin so, and the remaining ones follow.
use Rattle.std.proofs.Common.{◌≤◌, take}
use Rattle.regress_tree.specs.Tree.{tree, trees, cat}
use Rattle.regress_tree.specs.declared.ir.node.Node.{size-Node}
use Rattle.regress_prefilter.specs.FirstPairs.{IsFirstPair}
use Rattle.regress_prefilter.proofs.FirstPairLemmas.{IsPairSpine}
use Rattle.regress_prefilter.proofs.first_pairs.+pair_of.Given as goal

abbrev pub invariant-pair_of-loop-node : goal.invariant-pair_of-loop-node
invariant-pair_of-loop-node l = record {
  smaller : size-Node l.node ≤ size-Node l.initial.node;
  so_far : IsPairSpine l.all (tree l.initial.node) (tree l.node);
}

abbrev pub invariant-pair_of_list-loop-part : goal.invariant-pair_of_list-loop-part
invariant-pair_of_list-loop-part l = IsFirstPair l.all (cat (trees (take l.part-index l.parts)))
