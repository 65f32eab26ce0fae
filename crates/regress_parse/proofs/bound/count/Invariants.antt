-- The counts so far and those of the remaining source are the whole counts.
use Rattle.std.proofs.Common.{◌≡◌, ◌+◌, ◌-◌, ◌^◌, ◌≤◌, min, length}
use Rattle.regress_parse.specs.Bound.{total, positions, opens_name, is_reference, nodes_at}
use Rattle.regress_parse.proofs.bound.count.Given as goal

abbrev pub invariant-loop-rest : goal.invariant-loop-rest
invariant-loop-rest l = record {
  sum :
      min (l.nodes + total (nodes_at l.sets 0) l.rest) (2 ^ 64 - 1) ≡ min (3 + total (nodes_at l.sets 0) l.pattern) (2 ^ 64 - 1);
  fits : l.nodes ≤ 2 ^ 64 - 1;
  named : l.named + positions opens_name l.rest ≡ positions opens_name l.pattern;
  few_named : l.named + length l.rest ≤ length l.pattern;
  references : l.references + positions is_reference l.rest ≡ positions is_reference l.pattern;
  few_references : l.references + length l.rest ≤ length l.pattern;
}

abbrev pub decreases-loop-rest : goal.decreases-loop-rest
decreases-loop-rest l = length l.rest
