use Rattle.std.proofs.Common.{◌≡◌, length, sym, ◌∙◌, subst, arith}
use Rattle.std.proofs.lemmas.List.{length-map}
use Rattle.std.proofs.lemmas.Option.{same_Some}
use Rattle.regress_leaves.specs.Subject.{subject}
use Rattle.regress_program.specs.Listed.{listed}
use Rattle.regress_program.specs.Program.{matcher_of}
use Rattle.regress_program.specs.Views.{op_in, routine_in}
use Rattle.regress_code.specs.Code.{code_routines}
use Rattle.regress_tables.specs.Probes.{IsProbe}
use Rattle.regress_tables.proofs.FirstLemmas.{op-here}
use Rattle.regress_tables.proofs.MemoLemmas.{can-probe}
use Rattle.regress_tables.proofs.keys.far_probe.Goals as goal

pub probe_at-requires-clause-can : goal.probe_at-requires-clause-can
probe_at-requires-clause-can c =
    let leaves = c.args.input.now.code.now.program.leaves.items in
    let items = listed c.args.routine.now in
    let r = routine_in leaves c.args.routine.now in
    let pc = c.args.pc in
    can-probe c.args.input.now r c.args.table.now pc c.args.position (op_in leaves c.at.result) c.requires.can c.requires.position c.requires.at
    (omega (arith, length-map items (op_in leaves), c.if-pc-len.false, c.len.ensures)) c.requires.no_reference
    (op-here leaves items pc c.at.result c.at.ensures)

pub returns-clause-probe : goal.returns-clause-probe
returns-clause-probe c = λ outs tables right op is_op.
    let input = c.args.input.now in
    let u = subject input.rules input.text.now in
    let leaves = input.code.now.program.leaves.items in
    let here = op-here leaves (listed c.args.routine.now) c.args.pc c.at.result c.at.ensures in
    let same : op_in leaves c.at.result ≡ op = same_Some _ op (sym here ∙ is_op) in
    subst (λ o. IsProbe u.setting u.bytes u.direction (matcher_of u.setting u.bytes (code_routines input.code.now) outs) (outs (length input.tables.now)) o c.args.position c.probe_at.result) same
    (c.probe_at.ensures.probe outs tables right)
