use Rattle.std.proofs.Common.{◌≡◌, ◌+◌, ◌≤◌, ◌<◌, ℕ, length}
use Rattle.regress_program.specs.Ranges.{inner_groups}
use Rattle.regress_code.specs.Code.{code_routines}
use Rattle.regress_program.specs.Views.{routine_in}
use Rattle.regress_tables.specs.Slots.{AreInside, IsClean}
use Rattle.regress_tables.specs.Table.{index}
use Rattle.regress_tables.proofs.FirstLemmas.{IsOnWay}
use Rattle.regress_tables.proofs.walk.walk.Given as goal

abbrev pub invariant-walk : goal.invariant-walk
invariant-walk l = record {
  pc : l.walker.pc < l.table.width;
  position : l.walker.position ≤ l.table.length;
  steps : l.steps + index l.table l.walker.pc l.walker.moved l.walker.position
      ≤ l.fn.steps + index l.table l.fn.walker.pc l.fn.walker.moved l.fn.walker.position;
  falls : index l.table l.walker.pc l.walker.moved l.walker.position ≤ index l.table l.fn.walker.pc l.fn.walker.moved l.fn.walker.position;
  count : length l.walker.slots.items ≡ length l.fn.walker.slots.items;
  clean : IsClean (code_routines l.input.code.now) (routine_in l.input.code.now.program.leaves.items l.routine) l.walker.pc l.walker.slots.items;
  captures : (inner : ℕ) → inner_groups (code_routines l.input.code.now) ≤ inner →
      AreInside (length l.input.tables.now) l.table.length inner l.fn.walker.slots.items →
      AreInside (length l.input.tables.now) l.table.length inner l.walker.slots.items;
  leads : IsOnWay l.input l.table l.fn.walker l.walker;
}

abbrev pub decreases-walk : goal.decreases-walk
decreases-walk l = index l.table l.walker.pc l.walker.moved l.walker.position
