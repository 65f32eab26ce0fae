use Rattle.std.proofs.Common.{◌-◌, ◌≤◌}
use Rattle.regress_base.proofs.bytesearch.debug_list.end_of_run.Given as goal

abbrev pub invariant-loop-end : goal.invariant-loop-end
invariant-loop-end g l = (l.first ≤ l.end) × (l.end ≤ 256)

abbrev pub decreases-loop-end : goal.decreases-loop-end
decreases-loop-end g l = 256 - l.end
