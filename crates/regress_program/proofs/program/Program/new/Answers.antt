-- What is kept of a program is computed from its routines.
use Rattle.std.proofs.Common.{min, sym, ap, ap₂, ◌∙◌}
use Rattle.regress_program.specs.Compiled.{total}
use Rattle.regress_program.specs.Ranges.{ranges_of}
use Rattle.regress_program.specs.Linear.{reason}
use Rattle.regress_program.specs.Tidy.{table_groups}
use Rattle.regress_program.specs.Views.{program_in}
use Rattle.regress_program.proofs.program.Program.new.Goals as goal

pub table_groups-table_groups-requires : goal.table_groups-table_groups-requires
table_groups-table_groups-requires c = λ leaves.
    c.deref-5.ensures.value ∙ c.in_ok-ranges.ensures leaves ∙ ap (λ rs. ranges_of (program_in leaves rs)) (c.deref-4.ensures.value ∙ sym c.deref-6.ensures.value)

pub invariant_of-result-clause-counted : goal.invariant_of-result-clause-counted
invariant_of-result-clause-counted c =
    c.instruction_count-instructions.ensures c.args.leaves.items
    ∙ ap (λ rs. min (total (program_in c.args.leaves.items rs)) 18446744073709551615) c.deref.ensures.value

pub invariant_of-result-clause-linear_unless : goal.invariant_of-result-clause-linear_unless
invariant_of-result-clause-linear_unless c =
    c.reason-nonlinear.ensures ∙ ap₂ (λ ls rs. reason (program_in ls rs)) c.deref-2.ensures.value c.deref-3.ensures.value

pub invariant_of-result-clause-ranged : goal.invariant_of-result-clause-ranged
invariant_of-result-clause-ranged c =
    c.in_ok-ranges.ensures c.args.leaves.items ∙ ap (λ rs. ranges_of (program_in c.args.leaves.items rs)) c.deref-4.ensures.value

pub invariant_of-result-clause-tabled : goal.invariant_of-result-clause-tabled
invariant_of-result-clause-tabled c =
    let leaves = c.args.leaves.items in
    c.table_groups-table_groups.ensures leaves
    (c.reason-nonlinear.ensures ∙ ap₂ (λ ls rs. reason (program_in ls rs)) c.deref-2.ensures.value (c.deref-3.ensures.value ∙ sym c.deref-6.ensures.value))
    ∙ ap (λ rs. table_groups c.is_well_formed-tidy.result (program_in leaves rs)) c.deref-6.ensures.value
