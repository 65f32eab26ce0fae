use Rattle.std.proofs.Common.{◌≤◌, ◌-◌, map, length}
use Rattle.regress_tree.specs.Tree.{tree}
use Rattle.regress_passes.proofs.PartLemmas.{HasGap}
use Rattle.regress_passes.proofs.NeighbourLemmas.{BackwardSoFar}
use Rattle.regress_passes.proofs.form_literal_bytes.join_backwards.Given as goal

abbrev pub invariant-loop-earlier : goal.invariant-loop-earlier
invariant-loop-earlier l = record {
  ordered : l.earlier ≤ l.last;
  within : l.last ≤ length l.parts - 1;
  gap : HasGap l.earlier l.last (map tree l.parts);
  so_far : BackwardSoFar l.joined l.earlier l.last (map tree l.fn.parts) (map tree l.parts);
}
