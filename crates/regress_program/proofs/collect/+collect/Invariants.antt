use Rattle.std.proofs.Common.{◌≡◌, ◌≤◌, ◌++◌, drop, length, map}
use Rattle.regress_tree.specs.declared.ir.node.Node.{size-Node}
use Rattle.regress_tree.specs.Tree.{tree, trees}
use Rattle.regress_program.specs.LeavesOf.{leaves_of, leaves_of_parts, tree_of}
use Rattle.regress_program.proofs.collect.+collect.Given as goal

-- the leaves of the left sides so far
abbrev pub invariant-collect-loop-rest : goal.invariant-collect-loop-rest
invariant-collect-loop-rest l = record {
  smaller : size-Node l.rest ≤ size-Node l.fn.node;
  has : map tree_of l.leaves.items ++ leaves_of (tree l.rest) ≡ map tree_of l.fn.leaves.items ++ leaves_of (tree l.fn.node);
}

-- the leaves of the parts from i on
abbrev pub invariant-collect_parts-loop-i : goal.invariant-collect_parts-loop-i
invariant-collect_parts-loop-i l = record {
  within : l.i ≤ length l.parts;
  has : map tree_of l.leaves.items ≡ map tree_of l.fn.leaves.items ++ leaves_of_parts (trees (drop l.i l.parts));
}

abbrev pub decreases-collect_parts-loop-i : goal.decreases-collect_parts-loop-i
decreases-collect_parts-loop-i l = l.i
