use Rattle.std.proofs.Common.{◌≡◌, drop}
use Rattle.regress_tree.specs.Shapes.{has_neighbours, has_bytes}
use Rattle.regress_tree.specs.Tree.{trees}
use Rattle.regress_normalize.proofs.CatLemmas.{neighbours_from}
use Rattle.regress_normalize.proofs.cat.has_byte_neighbours.Given as goal

abbrev pub invariant-loop-part : goal.invariant-loop-part
invariant-loop-part l = has_neighbours has_bytes (trees l.parts) ≡ neighbours_from l.before (drop l.part-index l.parts)
