use Rattle.std.proofs.Common.{◌≡◌, ◌+◌, ◌≤◌}
use Rattle.std.specs.Prelude.{vec_len, vec_capacity}
use Rattle.regress_tree.specs.Tree.{tree, trees, copies}
use Rattle.regress_rewrite.proofs.unroll_loops.required_copies.Given as goal

abbrev pub invariant-loop : goal.invariant-loop
invariant-loop l = record {
  copied : trees l.parts.items ≡ copies l.counter (tree l.body);
  count : vec_len l.parts ≡ l.counter;
  room : l.times + 1 ≤ vec_capacity l.parts;
}
