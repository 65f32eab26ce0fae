-- The characters so far are in the set.
use Rattle.std.proofs.Common.{◌-◌, ◌≤◌, length}
use Rattle.regress_leaves.specs.Starts.{AreIn}
use Rattle.regress_leaves.proofs.ascii.count_of.Given as goal

abbrev pub invariant-loop-end : goal.invariant-loop-end
invariant-loop-end l = record {
  from : l.position ≤ l.end;
  within : l.end ≤ length l.text;
  are_in : AreIn l.set l.text l.position (l.end - l.position);
}

abbrev pub decreases-loop-end : goal.decreases-loop-end
decreases-loop-end l = length l.bytes - l.end
