-- No entry so far has the name.
use Rattle.std.proofs.Common.{◌≡◌, map, drop}
use Rattle.regress_base.specs.Table.{named}
use Rattle.regress_properties.specs.Listed.{range_of}
use Rattle.regress_properties.proofs.lookup.find_range.Given as goal

abbrev pub invariant-loop-entry : goal.invariant-loop-entry
invariant-loop-entry l =
    named l.name (map (λ n. range_of n.0.now n.1 n.2) (drop l.entry-index l.names)) ≡
    named l.name (map (λ n. range_of n.0.now n.1 n.2) l.names)
