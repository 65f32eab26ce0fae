use Rattle.std.proofs.Common.{map}
use Rattle.regress_tree.specs.Tree.{tree}
use Rattle.regress_passes.proofs.NeighbourLemmas.{ForwardSoFar}
use Rattle.regress_passes.proofs.form_literal_bytes.join_forwards.Given as goal

abbrev pub invariant-loop-later : goal.invariant-loop-later
invariant-loop-later l = ForwardSoFar l.joined l.later (map tree l.fn.parts) (map tree l.parts)
