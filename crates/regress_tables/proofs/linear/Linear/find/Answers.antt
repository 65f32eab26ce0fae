use Rattle.std.proofs.Common.{◌≡◌, ◌+◌, ◌*◌, ◌<◌, ◌≤◌, length, arith}
use Rattle.regress_found.specs.declared.fault.MemoryFault.TheVariants.{TooMuchMemory}
use Rattle.regress_program.specs.Ranges.{inner_groups}
use Rattle.regress_program.specs.Compiled.{total}
use Rattle.regress_code.specs.Code.{captures_cost, code_routines}
use Rattle.regress_tables.specs.Memory.{table_bytes}
use Rattle.regress_tables.specs.Search.{capturing_steps}
use Rattle.regress_tables.proofs.MemoryLemmas.{limited-more, passed_on}
use Rattle.regress_tables.proofs.StepLemmas.{fill_and_find}
use Rattle.regress_tables.proofs.linear.Linear.find.Goals as goal

pub returns-clause-steps : goal.returns-clause-steps
returns-clause-steps c =
    let program = code_routines c.args.self.now.code.now in
    let search = c.in_ok-search.search in
    let find = c.in_ok-search.ensures in
    let filled : c.fill_all.new.steps ≤ 2 * total program * (length c.args.text.now + 1) = omega (arith, c.in_ok-tables.ensures.counted) in
    let b = captures_cost c.args.self.now.code.now in
    let sum = fill_and_find (total program) b (capturing_steps (total program) (inner_groups program) (1 + b)) c.args.text.now c.args.from search.found c.fill_all.new.steps search.steps
    filled find.steps find.inside in
    omega (arith, sum, c.saturating_add.ensures)

pub returns-in_err-tables-clause-too_much : goal.returns-in_err-tables-clause-too_much
returns-in_err-tables-clause-too_much c =
    let worst = table_bytes (total (code_routines c.args.self.now.code.now)) c.args.text.now in
    passed_on (λ fault. fault ≡ TooMuchMemory → c.args.memory < worst) c.from_residual-in_err-tables.result c.in_err-tables.field-0.0 c.from_residual-in_err-tables.ensures.1
    (λ is. limited-more c.in_ok-room.room c.args.memory worst c.in_ok-room.ensures.room (c.in_err-tables.ensures.too_much is))
