-- No character boundary before the current position has an outcome. Each position before it is counted, and no step of a
-- walk is. Rows that are known to fail do.
use Rattle.std.proofs.Common.{◌≡◌, length, ℕ, ◌+◌, ◌-◌, min}
use Rattle.regress_found.specs.Found.{NoneBefore}
use Rattle.regress_program.specs.Program.{Out}
use Rattle.regress_tables.specs.Searchable.{HasNoneInAny, Solves, outcomes_in, program_in}
use Rattle.regress_tables.proofs.leftmost.find_leftmost.Given as goal

abbrev pub invariant-loop-start : goal.invariant-loop-start
invariant-loop-start l = record {
  tried : l.tried ≡ min l.start (length l.filled.input.text.now + 1) - l.from;
  walked : l.walked ≡ 0;
  failed : HasNoneInAny l.filled l.last l.failed;
  none : (outs : ℕ → Out) → Solves l.filled outs →
      NoneBefore l.filled.input.text.now (outcomes_in l.filled outs (length (program_in l.filled) - 1) l.groups) l.from l.start;
}
