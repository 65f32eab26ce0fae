-- Each character is in the set or among the remaining ones.
use Rattle.std.proofs.Common.{◌≡◌, ◌<◌, ◌||◌, ℕ, drop}
use Rattle.regress_base.specs.ByteBitmap.{contains}
use Rattle.regress_base.specs.Listing.{lists}
use Rattle.regress_leaves.proofs.ascii_sets.ascii_among.Given as goal

abbrev pub invariant-loop-c : goal.invariant-loop-c
invariant-loop-c l = (b : ℕ) → b < 128 → (contains l.set b || lists (drop l.c-index l.characters) b) ≡ lists l.characters b
