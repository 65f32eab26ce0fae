-- Each member is among the remaining ones, or its first byte is in the set.
use Rattle.std.proofs.Common.{◌≡◌, ◌⊎◌, ℕ, true, drop}
use Rattle.regress_base.specs.ByteBitmap.{contains}
use Rattle.regress_base.specs.Listing.{lists}
use Rattle.regress_prefilter.specs.FirstSets.{IsCovered}
use Rattle.regress_prefilter.proofs.first_sets.add_bytes.Given as goal

abbrev pub invariant-loop-b : goal.invariant-loop-b
invariant-loop-b l = (c : ℕ) → lists l.bytes c ≡ true → (lists (drop l.b-index l.bytes) c ≡ true) ⊎ IsCovered (contains l.set) c
