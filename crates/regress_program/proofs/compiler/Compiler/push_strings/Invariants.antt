use Rattle.std.proofs.Common.{◌≡◌, ◌+◌, ◌-◌, Bool, drop, length}
use Rattle.regress_program.specs.CodeOf.{Spends}
use Rattle.regress_program.specs.Listed.{Appends, all_of}
use Rattle.regress_program.specs.declared.counts.Counts.{Counts}
use Rattle.regress_program.proofs.StringLemmas.{EmitsEach, leaves_in}
use Rattle.regress_program.proofs.compiler.Compiler.push_strings.Given as goal

-- the leaves so far, of the last strings
abbrev pub invariant-loop-i : goal.invariant-loop-i
invariant-loop-i l = record {
  appends : Appends l.fn.self.instructions l.self.instructions;
  long : length (all_of l.self.instructions) ≡ l.first + l._i;
  each : (icase : Bool) → EmitsEach l.fn.self l.self l.fn.self.next_leaf (leaves_in (drop (length l.alternatives - l._i) l.alternatives) icase) l.next l.first;
  spent : (counts : Counts) → Spends l.fn.self l.self counts (λ counted. l._i);
}
