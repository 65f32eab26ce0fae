-- The list has the strings of the ranges so far.
use Rattle.std.proofs.Common.{◌≡◌, map, take, slice_range}
use Rattle.regress_properties.specs.Listed.{values_of}
use Rattle.regress_properties.proofs.texts.strings.Given as goal

abbrev pub invariant-loop-position : goal.invariant-loop-position
invariant-loop-position l =
    values_of l.strings ≡ map (λ p. slice_range l.points p.0 p.1) (take l.position-index l.positions)
