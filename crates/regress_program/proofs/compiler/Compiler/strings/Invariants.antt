use Rattle.std.proofs.Common.{◌+◌, ◌-◌, Bool, drop, length}
use Rattle.regress_program.specs.CodeOf.{Emits, Spends}
use Rattle.regress_program.specs.Compiled.{matching}
use Rattle.regress_program.specs.Contents.{nothing}
use Rattle.regress_program.specs.declared.counts.Counts.{Counts}
use Rattle.regress_program.proofs.StringLemmas.{EmitsEach, leaves_in, set_of}
use Rattle.regress_program.proofs.compiler.Compiler.strings.Given as goal

-- the last strings so far
abbrev pub invariant-loop-i : goal.invariant-loop-i
invariant-loop-i l = record {
  each : (icase : Bool) → EmitsEach l.fn.self l.self l.fn.self.next_leaf (leaves_in l.alternatives icase) l.next l.last;
  emits : (icase : Bool) → Emits l.fn.self l.self l.fn.self.next_leaf (leaves_in l.alternatives icase)
      (matching (set_of (drop (length l.alternatives - l.i) l.alternatives) icase)) nothing l.next l.entry;
  spent : (counts : Counts) → Spends l.fn.self l.self counts (λ counted. length l.alternatives + (l.i - 1));
}
