-- What has been undone since the last backtrack point.
use Rattle.std.proofs.Common.{◌≤◌, ℕ, length}
use Rattle.regress_backtrack.specs.Machine.{Kept}
use Rattle.regress_backtrack.specs.Memory.{AreWithin, entry_count}
use Rattle.regress_backtrack.proofs.machine.Machine.backtrack.Given as goal

abbrev pub invariant-loop-entry : goal.invariant-loop-entry
invariant-loop-entry l = record {
  kept : Kept l.fn.self l.self;
  shrinks : entry_count l.self ≤ entry_count l.fn.self;
  within : (room : ℕ) → AreWithin room l.fn.self → AreWithin room l.self;
}

abbrev pub decreases-loop-entry : goal.decreases-loop-entry
decreases-loop-entry l = length l.self.stack.entries.items
