-- The list and the intervals have what the entries so far map. The remaining intervals have every member that the other entries map.
use Rattle.std.proofs.Common.{◌≡◌, ℕ, ◌<◌, ◌≤◌, ◌||◌, IsTrue, length, get_or, take}
use Rattle.regress_base.specs.Intervals.{is_member, IsCanonical}
use Rattle.regress_unicode.specs.FoldEntries.{FoldEntry}
use Rattle.regress_unicode.specs.Shifts.{maps_to_by, forward}
use Rattle.regress_unicode.proofs.closure.targets.Given as goal

abbrev pub invariant-loop-mapping : goal.invariant-loop-mapping
invariant-loop-mapping l = record {
  members : (x : ℕ) → (is_member l.intervals x || is_member l.found.items x)
      ≡ (is_member l.intervals x || maps_to_by forward (take l.mapping-index l.mappings) (is_member l.intervals) x);
  canonical : IsCanonical l.rest;
  within : (x : ℕ) → IsTrue (is_member l.rest x) → IsTrue (is_member l.intervals x);
  same : (k : ℕ) (d : FoldEntry) → l.mapping-index ≤ k → k < length l.mappings → (x : ℕ) → (get_or l.mappings k d).start ≤ x →
      is_member l.rest x ≡ is_member l.intervals x;
}
