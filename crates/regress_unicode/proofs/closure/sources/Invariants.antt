-- The list and the intervals have what the entries so far map.
use Rattle.std.proofs.Common.{◌≡◌, ℕ, ◌≤◌, ◌||◌, All, take}
use Rattle.regress_base.specs.Intervals.{is_member}
use Rattle.regress_unicode.specs.Shifts.{maps_to_by, backward}
use Rattle.regress_unicode.proofs.closure.sources.Given as goal

abbrev pub invariant-loop-mapping : goal.invariant-loop-mapping
invariant-loop-mapping l = record {
  members : (x : ℕ) → (is_member l.intervals x || is_member l.found.items x)
      ≡ (is_member l.intervals x || maps_to_by backward (take l.mapping-index l.mappings) (is_member l.intervals) x);
  nonempty : All (λ mapping. 1 ≤ mapping.length) (take l.mapping-index l.mappings);
}
