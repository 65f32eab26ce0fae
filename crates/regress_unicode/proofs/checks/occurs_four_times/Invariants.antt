-- No number so far is equal to the number three indices before it.
use Rattle.std.proofs.Common.{◌≢◌, ℕ, ◌+◌, ◌<◌, get_or}
use Rattle.regress_unicode.proofs.checks.occurs_four_times.Given as goal

abbrev pub invariant-loop-i : goal.invariant-loop-i
invariant-loop-i l = (k : ℕ) → k + 3 < l.i → get_or l.sorted k 0 ≢ get_or l.sorted (k + 3) 0
