use Rattle.std.proofs.Common.{◌≤◌, drop}
use Rattle.std.specs.Fmt.{HasWritten, IsPlainFormatter}
use Rattle.regress_tree.specs.declared.ir.node.Node.{size-Node}
use Rattle.regress_tree.specs.Tree.{tree, trees}
use Rattle.regress_tree.specs.Display.{printed_at, printed_in_list}
use Rattle.regress_tree.proofs.ir.display.+write_tree.Given as goal

-- The remaining lines complete the whole. The loop descends, and the calls in it are on smaller nodes.
abbrev pub invariant-write_tree-loop-depth : goal.invariant-write_tree-loop-depth
invariant-write_tree-loop-depth g l =
    let took = g.W.Write.write_str_gives in
    record {
      smaller : size-Node l.node ≤ size-Node l.initial.node;
      completes : IsPlainFormatter l.initial.f → IsPlainFormatter l.f × ((last : _) →
          HasWritten took l.f (printed_at l.depth (tree l.node)) last →
          HasWritten took l.initial.f (printed_at l.initial.depth (tree l.initial.node)) last);
    }

abbrev pub decreases-write_tree-loop-depth : goal.decreases-write_tree-loop-depth
decreases-write_tree-loop-depth g l = size-Node l.node

abbrev pub invariant-write_trees-loop-part : goal.invariant-write_trees-loop-part
invariant-write_trees-loop-part g l =
    let took = g.W.Write.write_str_gives in
    let rest = printed_in_list l.depth (trees (drop l.part-index l.parts)) in
    IsPlainFormatter l.initial.f → IsPlainFormatter l.f × ((last : _) →
    HasWritten took l.f rest last → HasWritten took l.initial.f (printed_in_list l.depth (trees l.parts)) last)
