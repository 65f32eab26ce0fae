-- The captures of the slots so far.
use Rattle.std.proofs.Common.{◌≡◌, ℕ, Option, take}
use Rattle.regress_tree.specs.Steps.{CaptureSpan}
use Rattle.regress_tables.specs.Slots.{resolved}
use Rattle.regress_tables.proofs.slots.captures_of.Given as goal

abbrev pub invariant-loop-slot : goal.invariant-loop-slot
invariant-loop-slot l = (capture_of : ℕ → ℕ → ℕ → Option CaptureSpan) → l.captures.items ≡ resolved capture_of (take l.slot-index l.slots)
