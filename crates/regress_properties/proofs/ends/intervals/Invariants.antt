-- The list has the intervals of the pairs so far, with room for the others, and the remaining ends are intervals.
use Rattle.std.proofs.Common.{◌≡◌, ◌++◌, ◌*◌, ◌/◌, All, drop, length, vec_len, vec_capacity}
use Rattle.regress_base.specs.Intervals.{IsInterval}
use Rattle.regress_properties.specs.Listed.{paired}
use Rattle.regress_properties.proofs.ends.intervals.Given as goal

abbrev pub invariant-loop-index : goal.invariant-loop-index
invariant-loop-index l =
    (l.intervals.items ++ paired (drop (2 * l.index) l.ends) ≡ paired l.ends)
    × All IsInterval (paired (drop (2 * l.index) l.ends))
    × (vec_len l.intervals ≡ l.index)
    × (vec_capacity l.intervals ≡ length l.ends / 2)
