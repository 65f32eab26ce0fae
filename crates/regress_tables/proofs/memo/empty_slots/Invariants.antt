-- No slot has an entry.
use Rattle.std.proofs.Common.{◌≡◌, ℕ, Some, slice_get}
use Rattle.regress_tables.specs.declared.memo.Entry.{Entry}
use Rattle.regress_tables.proofs.memo.empty_slots.Given as goal

abbrev pub invariant-loop-i : goal.invariant-loop-i
invariant-loop-i l = (k : ℕ) (entry : Entry) → slice_get l.slots.items k ≡ Some (Some entry) → ⊥
