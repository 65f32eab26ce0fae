-- Later routines have set no group any more, and the captures stay the same.
use Rattle.std.proofs.Common.{◌+◌, ◌*◌, ◌≤◌, length, take}
use Rattle.regress_program.specs.Compiled.{total}
use Rattle.regress_tables.specs.Searchable.{AreResolved, program_in}
use Rattle.regress_tables.proofs.resolve.resolve.Given as goal

abbrev pub invariant-loop-routine : goal.invariant-loop-routine
invariant-loop-routine l = record {
  within : l.routine ≤ l.routines;
  resolved : AreResolved l.filled l.routine l.fn.slots.items l.slots.items;
  steps : l.steps + 2 * total (take l.routine (program_in l.filled)) * l.filled.inner * (length l.filled.input.text.now + 1)
      ≤ l.fn.steps + 2 * total (take l.routines (program_in l.filled)) * l.filled.inner * (length l.filled.input.text.now + 1);
}
