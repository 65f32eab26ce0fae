use Rattle.std.proofs.Common.{◌≡◌, ℕ, ◌+◌, ◌-◌, ◌*◌, ◌≤◌, ◌<◌, List, All, length, drop}
use Rattle.regress_leaves.specs.declared.test.Test.{Test}
use Rattle.regress_tree.specs.declared.ir.node.Node.{size-Node}
use Rattle.regress_tree.specs.Tree.{tree, trees, cat}
use Rattle.regress_program.specs.CodeOf.{iterating, iteration_of, iteration_size, loop_of, Emits, Spends, EmitsCopies}
use Rattle.regress_program.specs.Compiled.{matching, exactly}
use Rattle.regress_program.specs.Contents.{content, content_of_parts}
use Rattle.regress_program.specs.LeavesOf.{HasLeaves, leaves_of, leaves_of_parts}
use Rattle.regress_program.specs.Listed.{Appends, all_of}
use Rattle.regress_program.specs.Size.{sized, sized_parts}
use Rattle.regress_program.proofs.AlternativeLemmas.{Joining, Splitting}
use Rattle.regress_program.proofs.SpendLemmas.{Amount}
use Rattle.regress_program.proofs.OptionalLemmas.{EmitsOptional}
use Rattle.regress_program.proofs.compiler.Compiler.+compile.Given as goal

-- the iterations so far
abbrev pub invariant-exactly_iterations-loop-i : goal.invariant-exactly_iterations-loop-i
invariant-exactly_iterations-loop-i l = record {
  emits : EmitsCopies l.fn.self l.self l.iterations.first_leaf (leaves_of (tree l.fn.body)) l._i (exactly l._i (iterating l.iterations (matching (tree l.fn.body))))
      (loop_of l.iterations (content (tree l.fn.body))) l.next l.entry;
  none : l._i ≡ 0 → l.self.next_leaf ≡ l.fn.self.next_leaf;
  spent : Spends l.fn.self l.self l.iterations.counts (λ counted. iteration_size l.iterations (tree l.fn.body) counted * l._i);
}

-- the iterations so far
abbrev pub invariant-at_most-loop-i : goal.invariant-at_most-loop-i
invariant-at_most-loop-i l = record {
  emits : EmitsOptional l.fn.self l.self l.iterations.greedy l.iterations.first_leaf (leaves_of (tree l.fn.body))
      (iterating l.iterations (matching (tree l.fn.body))) (iteration_of l.iterations (content (tree l.fn.body))) l.next l.start (l._i - 1);
  spent : Spends l.fn.self l.self l.iterations.counts (λ counted. (iteration_size l.iterations (tree l.fn.body) counted + 1) * l._i);
}

-- the left sides so far
abbrev pub invariant-node-loop-rest : goal.invariant-node-loop-rest
invariant-node-loop-rest l = record {
  appends : Appends l.fn.self.instructions l.self.instructions;
  known : All (λ e. e < length (all_of l.self.instructions)) l.entries.items;
  splitting : (leaves : List Test) → HasLeaves leaves l.fn.self.next_leaf (leaves_of (tree l.fn.node)) →
      Splitting leaves l.fn.self l.self l.next l.entries.items (tree l.fn.node) (tree l.rest);
  smaller : size-Node l.rest ≤ size-Node l.fn.node;
  amount : Amount;
  total : (counted : ℕ → ℕ) → amount counted + sized l.counts counted (tree l.rest) + length l.entries.items ≡ sized l.counts counted (tree l.fn.node);
  spent : Spends l.fn.self l.self l.counts amount;
}

-- the alternatives that have been joined, from the last one
abbrev pub invariant-node-loop-first : goal.invariant-node-loop-first
invariant-node-loop-first l = record {
  begins : l.entry < length (all_of l.self.instructions);
  appends : Appends l.fn.self.instructions l.self.instructions;
  known : All (λ e. e < length (all_of l.self.instructions)) l.entries.items;
  joining : (leaves : List Test) → HasLeaves leaves l.fn.self.next_leaf (leaves_of (tree l.fn.node)) →
      Joining leaves l.fn.self l.self l.next l.entry l.entries.items (tree l.fn.node);
  amount : Amount;
  total : (counted : ℕ → ℕ) → amount counted + length l.entries.items ≡ sized l.fn.counts counted (tree l.fn.node);
  spent : Spends l.fn.self l.self l.fn.counts amount;
}

abbrev pub decreases-node-loop-first : goal.decreases-node-loop-first
decreases-node-loop-first l = length l.entries.items

-- the parts from i on
abbrev pub invariant-sequence-loop-i : goal.invariant-sequence-loop-i
invariant-sequence-loop-i l = record {
  within : l.i ≤ length l.parts;
  emits : Emits l.fn.self l.self l.fn.self.next_leaf (leaves_of_parts (trees (drop l.i l.parts))) (matching (cat (trees (drop l.i l.parts))))
      (content_of_parts (trees (drop l.i l.parts))) l.next l.entry;
  spent : Spends l.fn.self l.self l.counts (λ counted. sized_parts l.counts counted (trees (drop l.i l.parts)));
}

abbrev pub decreases-sequence-loop-i : goal.decreases-sequence-loop-i
decreases-sequence-loop-i l = l.i
