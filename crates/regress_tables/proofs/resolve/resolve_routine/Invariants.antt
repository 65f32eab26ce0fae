-- The captures stay the same, and the routine has set no group before `id` any more.
use Rattle.std.proofs.Common.{◌+◌, ◌*◌, ◌≤◌, length}
use Rattle.regress_tables.specs.Searchable.{program_in, width_at}
use Rattle.regress_tables.proofs.ResolveLemmas.{IsPartly}
use Rattle.regress_tables.proofs.resolve.resolve_routine.Given as goal

abbrev pub invariant-loop-id : goal.invariant-loop-id
invariant-loop-id l = record {
  partly : IsPartly l.filled l.routine l.id l.fn.slots.items l.slots.items;
  steps : l.steps ≤ l.fn.steps + l.id * (2 * width_at (program_in l.filled) l.routine * (length l.filled.input.text.now + 1));
}
