use Rattle.std.proofs.Common.{◌≡◌, ◌<◌}
use Rattle.regress_found.specs.declared.fault.MemoryFault.TheVariants.{TooMuchMemory}
use Rattle.regress_program.specs.Compiled.{total}
use Rattle.regress_code.specs.Code.{code_routines}
use Rattle.regress_tables.specs.Memory.{stored_bytes, table_bytes}
use Rattle.regress_tables.proofs.MemoryLemmas.{limited-more, passed_on, within-memory}
use Rattle.regress_tables.proofs.linear.Linear.search.Goals as goal

pub returns-clause-fits : goal.returns-clause-fits
returns-clause-fits c =
    let worst = table_bytes (total (code_routines c.args.self.code.now)) c.args.text.now in
    within-memory c.in_ok-room.room c.args.memory worst (stored_bytes c.in_ok-tables.tables.items) c.in_ok-room.ensures.room c.in_ok-tables.ensures.stored

pub returns-in_err-tables-clause-too_much : goal.returns-in_err-tables-clause-too_much
returns-in_err-tables-clause-too_much c =
    let worst = table_bytes (total (code_routines c.args.self.code.now)) c.args.text.now in
    passed_on (λ fault. fault ≡ TooMuchMemory → c.args.memory < worst) c.from_residual-in_err-tables.result c.in_err-tables.field-0.0 c.from_residual-in_err-tables.ensures.1
    (λ is. limited-more c.in_ok-room.room c.args.memory worst c.in_ok-room.ensures.room (c.in_err-tables.ensures.too_much is))
