-- The first repetitions lead to these rows.
use Rattle.std.proofs.Common.{◌≡◌, ℕ, ◌<◌, Some, slice_get, slice_index_or}
use Rattle.regress_leaves.specs.Subject.{subject}
use Rattle.regress_tables.specs.Repetitions.{EndsIn, IsCoded, SameRepetitions, repetition_tree}
use Rattle.regress_tables.specs.Runs.{AreRuns}
use Rattle.regress_tables.specs.declared.repetitions.Repetition.{Repetition}
use Rattle.regress_tables.specs.declared.table.Table.{Table}
use Rattle.regress_tables.proofs.repetitions.Repetitions.find_ends.Given as goal

abbrev pub invariant-loop-k : goal.invariant-loop-k
invariant-loop-k l = record {
  same : SameRepetitions l.fn.self l.self;
  runs : AreRuns (subject l.input.rules l.input.text.now) l.input.code.now.program.leaves.items l.runs;
  digits : (t : Table) → IsCoded t l.fn.self → IsCoded t l.self;
  ends : (k : ℕ) (x : Repetition) → k < l.k → slice_get l.self.distinct.items k ≡ Some x →
      EndsIn (subject l.input.rules l.input.text.now) l.table (repetition_tree l.input.code.now.program.leaves.items x) l.position
      (slice_index_or l.self.ends.items k 0);
}
