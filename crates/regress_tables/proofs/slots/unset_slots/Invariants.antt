-- The list has the expected number of elements so far.
use Rattle.std.proofs.Common.{◌≡◌, ◌≤◌, ◌-◌, length}
use Rattle.std.specs.Prelude.{replicate}
use Rattle.regress_tables.specs.declared.slots.Slot.TheVariants.{Unset}
use Rattle.regress_tables.proofs.slots.unset_slots.Given as goal

abbrev pub invariant-loop-slots : goal.invariant-loop-slots
invariant-loop-slots l = record {
  most : length l.slots.items ≤ l.count;
  unset : l.slots.items ≡ replicate (length l.slots.items) Unset;
}

abbrev pub decreases-loop-slots : goal.decreases-loop-slots
decreases-loop-slots l = l.count - length l.slots.items
