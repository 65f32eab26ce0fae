use Rattle.std.specs.Prelude.{◌≡◌, map, take}
use Rattle.example_callers.specs.Remarks.{explained, shown}
use Rattle.example_callers.proofs.remarks.explain_all.Given as goal

abbrev pub invariant-loop-difference : goal.invariant-loop-difference
invariant-loop-difference l = map shown l.remarks.items ≡ map explained (take l.difference-index l.found)
