-- The copies so far, and the remaining nodes.
use Rattle.std.proofs.Common.{◌≡◌, map, take, drop}
use Rattle.regress_tree.specs.Tree.{tree, trees}
use Rattle.regress_tree.specs.Copies.{NoneHasGroup}
use Rattle.regress_tree.specs.Duplicates.{may_duplicate_list}
use Rattle.regress_tree.proofs.ir.copies.+duplicate.Given as goal

abbrev pub invariant-duplicate_nodes-loop-node : goal.invariant-duplicate_nodes-loop-node
invariant-duplicate_nodes-loop-node l = record {
  copied : map tree l.copies.items ≡ map tree (take l.node-index l.nodes);
  still : may_duplicate_list l.depth (trees (drop l.node-index l.nodes)) ≡ may_duplicate_list l.depth (trees l.nodes);
  groups : NoneHasGroup (trees (drop l.node-index l.nodes));
}
