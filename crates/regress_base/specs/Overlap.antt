-- The intersection of two intervals.
use Rattle.std.specs.Prelude.{◌&&◌, nat_le, max, min, if◌then◌else◌, List, [], ◌∷◌}
use Rattle.regress_base.specs.Intervals.{Bounds}

-- the code points in both intervals: one interval, or none
unfoldable pub overlap : Bounds → Bounds → List Bounds
overlap a b =
    if nat_le a.first b.last && nat_le b.first a.last then
    record { first = max a.first b.first; last = min a.last b.last } ∷ []
    else []
