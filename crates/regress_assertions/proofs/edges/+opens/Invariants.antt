-- The remaining alternatives decide.
use Rattle.std.proofs.Common.{◌≡◌, ◌≤◌}
use Rattle.regress_tree.specs.Tree.{tree}
use Rattle.regress_tree.specs.declared.ir.node.Node.{size-Node}
use Rattle.regress_assertions.specs.Characters.{view}
use Rattle.regress_assertions.specs.Edges.{opens}
use Rattle.regress_assertions.proofs.edges.+opens.Given as goal

abbrev pub invariant-opens-loop-last : goal.invariant-opens-loop-last
invariant-opens-loop-last l = record {
  smaller : size-Node l.last ≤ size-Node l.node;
  rest : opens (view l.set) (tree l.node) ≡ opens (view l.set) (tree l.last);
}
