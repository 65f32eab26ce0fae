-- The groups with smaller ids are unset.
use Rattle.std.proofs.Common.{◌≡◌, ◌+◌, ◌-◌, ◌≤◌, length, min}
use Rattle.regress_tree.specs.Repetition.{unset_from}
use Rattle.regress_backtrack.specs.Machine.{Kept}
use Rattle.regress_backtrack.specs.Memory.{AreWithin, entry_count}
use Rattle.regress_backtrack.proofs.machine.Machine.unset.Given as goal

abbrev pub invariant-loop-group : goal.invariant-loop-group
invariant-loop-group l = record {
  captures : l.self.captures.items ≡ unset_from 0 l.start (min l.group l.after) l.fn.self.captures.items;
  begins : l.self.stack.begins.items ≡ l.fn.self.stack.begins.items;
  count : length l.self.captures.items ≡ length l.fn.self.captures.items;
  kept : Kept l.fn.self l.self;
  grows : entry_count l.self ≤ entry_count l.fn.self + (min l.group l.after - l.start);
  within : AreWithin l.room l.fn.self → AreWithin l.room l.self;
}
