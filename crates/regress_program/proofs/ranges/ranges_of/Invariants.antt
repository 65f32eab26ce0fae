use Rattle.std.proofs.Common.{◌≡◌, drop, List}
use Rattle.regress_leaves.specs.declared.test.Test.{Test}
use Rattle.regress_program.specs.Ranges.{ranges_after, ranges_of}
use Rattle.regress_program.specs.Views.{program_in}
use Rattle.regress_program.proofs.ranges.ranges_of.Given as goal

-- The routines that are left add the ranges that are missing.
abbrev pub invariant-loop-routine : goal.invariant-loop-routine
invariant-loop-routine l = (leaves : List Test) → ranges_after l.ranges.items (drop l.routine-index (program_in leaves l.routines)) ≡ ranges_of (program_in leaves l.routines)
