-- The same numbers are recorded as before.
use Rattle.std.proofs.Common.{◌≡◌, ℕ, ◌+◌, ◌-◌, length}
use Rattle.regress_warnings.specs.Walked.{is_recorded}
use Rattle.regress_warnings.proofs.finder.mark.Given as goal

abbrev pub invariant-loop-numbers : goal.invariant-loop-numbers
invariant-loop-numbers l = (n : ℕ) → is_recorded l.numbers.items n ≡ is_recorded l.initial.numbers.items n

abbrev pub decreases-loop-numbers : goal.decreases-loop-numbers
decreases-loop-numbers l = l.fn.number + 1 - length l.numbers.items
