use Rattle.std.proofs.Common.{◌≡◌, ◌+◌, Bool, List, length}
use Rattle.regress_tables.specs.Evaluated.{IsFilled}
use Rattle.regress_tables.specs.Table.{Grows, SameShape, evaluated}
use Rattle.regress_tables.proofs.fill.fill_half.Given as goal

abbrev pub invariant-loop-pc : goal.invariant-loop-pc
invariant-loop-pc l = record {
  more : length (evaluated l.table) ≡ length (evaluated l.fn.table) + l.pc;
  shape : SameShape l.fn.table l.table;
  grows : (extra : List Bool) × Grows l.fn.table l.table extra;
  filled : IsFilled l.input l.fn.table → IsFilled l.input l.table;
}
