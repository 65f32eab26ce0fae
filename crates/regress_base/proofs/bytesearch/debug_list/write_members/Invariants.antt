use Rattle.std.proofs.Common.{◌-◌, ◌≤◌}
use Rattle.regress_base.proofs.bytesearch.debug_list.write_members.Given as goal

abbrev pub invariant-loop-first : goal.invariant-loop-first
invariant-loop-first g l = l.first ≤ 257

abbrev pub decreases-loop-first : goal.decreases-loop-first
decreases-loop-first g l = 257 - l.first
