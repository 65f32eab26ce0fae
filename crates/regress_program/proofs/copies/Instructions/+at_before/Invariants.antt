-- Each call looks at fewer copies.
use Rattle.regress_program.proofs.copies.Instructions.+at_before.Given as goal

abbrev pub decreases-at_before : goal.decreases-at_before
decreases-at_before l = l.count
