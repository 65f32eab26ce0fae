-- The instructions so far are listed, and the last of them match the repetitions so far.
use Rattle.std.proofs.Common.{◌≡◌, ◌⊎◌, ℕ, ◌<◌, Some, length, slice_get}
use Rattle.regress_program.specs.Listed.{listed}
use Rattle.regress_program.specs.Views.{ops_in}
use Rattle.regress_tables.specs.Repetitions.{IsRepeated, RepeatOne}
use Rattle.regress_tables.specs.declared.repetitions.Repeated.{Repeated}
use Rattle.regress_tables.proofs.repetitions.Repetitions.new.Given as goal

abbrev pub invariant-loop-k : goal.invariant-loop-k
invariant-loop-k l = record {
  count : length l.uses.items ≡ length l.last.items;
  one : RepeatOne l.input.code.now.program.leaves.items l.distinct.items;
  all : (k pc : ℕ) → k < l.k → slice_get l.far k ≡ Some pc →
      ((j : ℕ) × (slice_get l.ordered.items j ≡ Some pc)) ⊎ ((j : ℕ) × (slice_get l.last.items j ≡ Some pc));
  uses : (k pc : ℕ) (repeated : Repeated) → slice_get l.last.items k ≡ Some pc → slice_get l.uses.items k ≡ Some repeated →
      IsRepeated l.input.code.now.program.leaves.items (ops_in l.input.code.now.program.leaves.items (listed l.routine)) l.distinct.items pc repeated;
}
