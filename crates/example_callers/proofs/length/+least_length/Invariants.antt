-- The remaining parts complete the minimum length of the whole.
use Rattle.std.proofs.Common.{ℕ, ◌+◌, ◌≤◌, min, drop}
use Rattle.regress_front.specs.Tree.{tree, trees, cat}
use Rattle.regress_tree.specs.Onward.{TakesAtLeast}
use Rattle.regress_tree.specs.declared.ir.node.Node.{size-Node}
use Rattle.example_callers.proofs.length.+least_length.Given as goal

abbrev pub invariant-least_length-loop-last : goal.invariant-least_length-loop-last
invariant-least_length-loop-last l = record {
  smaller : size-Node l.last ≤ size-Node l.node;
  rest : (n : ℕ) → TakesAtLeast n (tree l.last) → TakesAtLeast (min l.least n) (tree l.node);
}

abbrev pub invariant-least_length_of_all-loop-part : goal.invariant-least_length_of_all-loop-part
invariant-least_length_of_all-loop-part l =
    (n : ℕ) → TakesAtLeast n (cat (trees (drop l.part-index l.parts))) → TakesAtLeast (l.least + n) (cat (trees l.parts))
