-- The alternatives or parts so far have this first set, and the remaining ones follow.
use Rattle.std.proofs.Common.{◌≤◌, take}
use Rattle.regress_tree.specs.Tree.{tree, trees, cat}
use Rattle.regress_tree.specs.declared.ir.node.Node.{size-Node}
use Rattle.regress_prefilter.specs.FirstSets.{IsFirstSet}
use Rattle.regress_prefilter.proofs.FirstSetLemmas.{IsSpine}
use Rattle.regress_prefilter.proofs.first_sets.+first_set_of.Given as goal

abbrev pub invariant-first_set_of-loop-node : goal.invariant-first_set_of-loop-node
invariant-first_set_of-loop-node l = record {
  smaller : size-Node l.node ≤ size-Node l.initial.node;
  so_far : IsSpine l.all (tree l.initial.node) (tree l.node);
}

abbrev pub invariant-first_set_of_list-loop-part : goal.invariant-first_set_of_list-loop-part
invariant-first_set_of_list-loop-part l = IsFirstSet l.all (cat (trees (take l.part-index l.parts)))
