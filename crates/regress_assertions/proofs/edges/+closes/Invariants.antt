-- The remaining alternatives decide.
use Rattle.std.proofs.Common.{◌≡◌, ◌≤◌}
use Rattle.regress_tree.specs.Tree.{tree}
use Rattle.regress_tree.specs.declared.ir.node.Node.{size-Node}
use Rattle.regress_assertions.specs.Characters.{view}
use Rattle.regress_assertions.specs.Edges.{closes}
use Rattle.regress_assertions.proofs.edges.+closes.Given as goal

abbrev pub invariant-closes-loop-last : goal.invariant-closes-loop-last
invariant-closes-loop-last l = record {
  smaller : size-Node l.last ≤ size-Node l.node;
  rest : closes (view l.set) (tree l.node) ≡ closes (view l.set) (tree l.last);
}
