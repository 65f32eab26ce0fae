-- The sets so far are canonical.
use Rattle.std.proofs.Common.{All, take}
use Rattle.regress_base.specs.Intervals.{IsCanonical}
use Rattle.regress_unicode.proofs.checks.sets_are_canonical.Given as goal

abbrev pub invariant-loop-set : goal.invariant-loop-set
invariant-loop-set l = All (λ entry. IsCanonical entry.1) (take l.set-index l.entries)
