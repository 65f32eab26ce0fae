-- The slots before `id` are taken, and the others are as before.
use Rattle.std.proofs.Common.{◌≡◌, ℕ, ◌≤◌, ◌<◌, length, slice_get, Some}
use Rattle.regress_tables.specs.declared.slots.Slot.TheVariants.{Inside}
use Rattle.regress_tables.proofs.resolve.take_slots.Given as goal

abbrev pub invariant-loop-id : goal.invariant-loop-id
invariant-loop-id l = record {
  count : length l.slots.items ≡ length l.fn.slots.items;
  taken : (j : ℕ) → j < l.id → slice_get l.fn.slots.items j ≡ Some (Inside l.routine l.position) → slice_get l.slots.items j ≡ slice_get l.found j;
  kept : (j : ℕ) → j < l.id → (slice_get l.fn.slots.items j ≡ Some (Inside l.routine l.position) → ⊥) → slice_get l.slots.items j ≡ slice_get l.fn.slots.items j;
  later : (j : ℕ) → l.id ≤ j → slice_get l.slots.items j ≡ slice_get l.fn.slots.items j;
}
