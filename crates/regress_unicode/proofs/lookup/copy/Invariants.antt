-- The strings so far are copied.
use Rattle.std.proofs.Common.{◌≡◌, map, take}
use Rattle.regress_properties.specs.Listed.{values_of}
use Rattle.regress_unicode.proofs.lookup.copy.Given as goal

abbrev pub invariant-loop-string : goal.invariant-loop-string
invariant-loop-string l = values_of l.copies ≡ map (λ string. string.items) (take l.string-index l.strings)
