-- The positions that are left out have no outcome.
use Rattle.std.proofs.Common.{◌+◌, ◌≤◌, ◌<◌, ℕ, true}
use Rattle.regress_backtrack.specs.Next.{Fails}
use Rattle.regress_backtrack.proofs.sweep.points_that_may_match.Given as goal

abbrev pub invariant-loop-kept : goal.invariant-loop-kept
invariant-loop-kept l = record {
  within : l.kept ≤ l.more;
  fails : (k : ℕ) → l.kept < k → k ≤ l.more → Fails l.input (record { pc = l.first.pc; moved = true; position = l.first.position + k });
}

abbrev pub decreases-loop-kept : goal.decreases-loop-kept
decreases-loop-kept l = l.kept
