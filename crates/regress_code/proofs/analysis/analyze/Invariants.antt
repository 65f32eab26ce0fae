-- The analyses so far.
use Rattle.std.proofs.Common.{◌≡◌, length}
use Rattle.regress_program.specs.Search.{routines_of}
use Rattle.regress_code.specs.NextBytes.{HaveNextBytes}
use Rattle.regress_code.specs.Possessive.{HavePossessive}
use Rattle.regress_code.specs.Rows.{HaveRows}
use Rattle.regress_code.specs.Skips.{HaveSkips}
use Rattle.regress_code.proofs.NextBytesLemmas.{HaveBodies}
use Rattle.regress_code.proofs.analysis.analyze.Given as goal

abbrev pub invariant-loop-routine : goal.invariant-loop-routine
invariant-loop-routine l = record {
  count : length l.analyses.items ≡ l.routine-index;
  body_count : length l.bodies.items ≡ l.routine-index;
  bodies : HaveBodies l.folds (routines_of l.program) l.bodies.items;
  next_bytes : HaveNextBytes l.folds (routines_of l.program) l.analyses.items;
  skips : HaveSkips l.program.routines.items l.analyses.items;
  rows : HaveRows l.folds l.program.leaves.items l.program.routines.items l.analyses.items;
  possessive : HavePossessive l.program.leaves.items l.program.routines.items l.analyses.items;
}
