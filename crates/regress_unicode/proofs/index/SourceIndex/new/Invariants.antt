-- What maps to an ASCII character outside the set, the first entry maps, or one of those that are left. The entries so
-- far have their bits.
use Rattle.std.proofs.Common.{◌≡◌, ℕ, ◌<◌, ◌≤◌, false, take}
use Rattle.regress_base.specs.AsciiBitmap.{ascii_contains}
use Rattle.regress_unicode.specs.FoldEntries.{has_source}
use Rattle.regress_unicode.specs.SourceIndex.{HasGroups}
use Rattle.regress_unicode.proofs.index.SourceIndex.new.Given as goal

abbrev pub invariant-loop-i : goal.invariant-loop-i
invariant-loop-i l = record {
  from : 1 ≤ l.i;
  alone : (target c : ℕ) → target < 128 → ascii_contains l.later target ≡ false →
      has_source (take 1 l.mappings) target c ≡ has_source (take l.i l.mappings) target c;
  grouped : HasGroups l.groups l.mappings l.i;
}
