use Rattle.std.proofs.Common.{◌≡◌, ℕ, ◌+◌, ◌-◌, ◌≤◌}
use Rattle.regress_program.specs.CodeOf.{EmitsCharacters, Spends}
use Rattle.regress_program.specs.Compiled.{exactly}
use Rattle.regress_program.specs.Size.{size_of_exactly}
use Rattle.regress_program.proofs.compiler.Compiler.exactly.Given as goal

-- the last characters so far
abbrev pub invariant-loop-left : goal.invariant-loop-left
invariant-loop-left l = record {
  within : l.left ≤ l.count;
  compiled : EmitsCharacters l.fn.self l.self l.leaf (exactly (l.count - l.left)) l.next l.entry;
  same : l.self.next_leaf ≡ l.fn.self.next_leaf;
  amount : ℕ;
  total : amount + size_of_exactly l.counts l.left ≡ size_of_exactly l.counts l.count;
  spent : Spends l.fn.self l.self l.counts (λ counted. amount);
}

abbrev pub decreases-loop-left : goal.decreases-loop-left
decreases-loop-left l = l.left
