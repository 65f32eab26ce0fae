-- Each member is among the remaining ones, or its first byte is in the set.
use Rattle.std.proofs.Common.{◌≡◌, ◌⊎◌, ℕ, true, drop}
use Rattle.regress_base.specs.ByteBitmap.{contains}
use Rattle.regress_base.specs.Listing.{lists}
use Rattle.regress_prefilter.specs.FirstSets.{IsCovered}
use Rattle.regress_prefilter.proofs.first_sets.add_characters.Given as goal

abbrev pub invariant-loop-c : goal.invariant-loop-c
invariant-loop-c l = (c : ℕ) → lists l.characters c ≡ true → (lists (drop l.c-index l.characters) c ≡ true) ⊎ IsCovered (contains l.set) c
