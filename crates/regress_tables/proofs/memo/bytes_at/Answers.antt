use Rattle.std.proofs.Common.{◌≡◌, ap, sym, subst, ◌∙◌}
use Rattle.std.proofs.lemmas.Option.{same_Some}
use Rattle.regress_code.specs.NextBytes.{Bounds}
use Rattle.regress_leaves.specs.Subject.{subject}
use Rattle.regress_program.specs.Listed.{listed}
use Rattle.regress_program.specs.Program.{outcomes_by}
use Rattle.regress_program.specs.Views.{op_in}
use Rattle.regress_tables.proofs.FirstLemmas.{op-here}
use Rattle.regress_tables.proofs.memo.bytes_at.Goals as goal

pub returns : goal.returns
returns c = λ op is body_of out a.
    let u = subject c.args.input.rules c.args.input.text.now in
    let leaves = c.args.input.code.now.program.leaves.items in
    let here : op_in leaves c.at.result ≡ op = same_Some _ op (sym (op-here leaves (listed c.args.routine.now) c.args.pc c.at.result c.at.ensures) ∙ is) in
    let same : op_in c.deref.result.now c.at.result ≡ op = ap (λ l. op_in l c.at.result) c.deref.ensures.value ∙ here in
    subst (λ o. Bounds c.instruction_next_bytes.result u.direction u.bytes a.state.position (outcomes_by u.setting u.bytes u.direction body_of out o a)) same
    (c.instruction_next_bytes.ensures u.setting c.has_ascii_case-folds.ensures u.bytes body_of out a (λ i body none. absurd (cc)) (λ pc next_byte none. absurd (cc)))
