-- The slots of the groups with smaller ids are set.
use Rattle.std.proofs.Common.{◌≡◌, length, min}
use Rattle.regress_tables.specs.Walked.{SlotsSet}
use Rattle.regress_tables.proofs.walker.set_slots.Given as goal

abbrev pub invariant-loop-id : goal.invariant-loop-id
invariant-loop-id l = record {
  set : SlotsSet (record { start = l.fn.range.start; end = min l.id l.after }) l.slot l.fn.slots.items l.slots.items;
  kept : length l.slots.items ≡ length l.fn.slots.items;
}
