use Rattle.std.proofs.Common.{◌≡◌, ◌≤◌, ◌++◌, drop}
use Rattle.regress_tree.specs.declared.ir.node.Node.{size-Node}
use Rattle.regress_tree.specs.Tree.{tree, trees}
use Rattle.regress_encoding.specs.Encoding.{encode, encode_list}
use Rattle.regress_encoding.proofs.encoding.+push.Given as goal

-- The remaining words complete the whole. The loop descends, and the calls in it are on smaller nodes.
abbrev pub invariant-push_tree-loop-parts : goal.invariant-push_tree-loop-parts
invariant-push_tree-loop-parts l = record {
  smaller : size-Node l.node ≤ size-Node l.initial.node;
  completes : l.words.items ++ encode (tree l.node) ≡ l.initial.words.items ++ encode (tree l.initial.node);
}

abbrev pub decreases-push_tree-loop-parts : goal.decreases-push_tree-loop-parts
decreases-push_tree-loop-parts l = size-Node l.node

abbrev pub invariant-push_trees-loop-part : goal.invariant-push_trees-loop-part
invariant-push_trees-loop-part l =
    l.words.items ++ encode_list (trees (drop l.part-index l.parts)) ≡ l.initial.words.items ++ encode_list (trees l.parts)
