-- The changes among the entries so far are appended.
use Rattle.std.proofs.Common.{◌≡◌, ◌++◌, ◌+◌, ◌≤◌, length, take, vec_capacity}
use Rattle.regress_backtrack.specs.Machine.{changes_of}
use Rattle.regress_backtrack.proofs.machine.append_changes.Given as goal

abbrev pub invariant-loop-entry : goal.invariant-loop-entry
invariant-loop-entry l = record {
  items : l.to.items ≡ l.fn.to.items ++ changes_of (take l.entry-index l.entries);
  grows : length l.to.items ≤ length l.fn.to.items + l.entry-index;
  within : vec_capacity l.fn.to ≤ l.room → vec_capacity l.to ≤ l.room;
}
