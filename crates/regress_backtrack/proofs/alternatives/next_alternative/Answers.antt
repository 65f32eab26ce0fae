use Rattle.std.proofs.Common.{◌++◌, sym, ap, ◌∙◌}
use Rattle.regress_leaves.specs.Subject.{subject}
use Rattle.regress_program.specs.Program.{goto}
use Rattle.regress_program.specs.declared.instruction.Instruction.TheVariants as insts
use Rattle.regress_backtrack.specs.Machine.{at}
use Rattle.regress_backtrack.proofs.CostLemmas.{second_cost}
use Rattle.regress_backtrack.proofs.RunLemmas.{can_step, solved}
use Rattle.regress_backtrack.proofs.alternatives.next_alternative.Goals as goal

pub returns-then-fails-clause-earlier : goal.returns-then-fails-clause-earlier
returns-then-fails-clause-earlier c =
    let input = c.args.input.now in
    let p = c.args.place in
    let i = insts.Split c.in_ok-first.first c.in_ok-first.second in
    let read = c.in_ok-first.ensures in
    (can_step input c.requires.input p i c.requires.pc read input.code.now.program.is_program c.requires.position).fits.1

pub returns-then-fails-clause-same : goal.returns-then-fails-clause-same
returns-then-fails-clause-same c = λ outs g solve.
    let input = c.args.input.now in
    let p = c.args.place in
    let u = subject input.rules input.text.now in
    let i = insts.Split c.in_ok-first.first c.in_ok-first.second in
    let read = c.in_ok-first.ensures in
    sym
    (solved input c.requires.input p i c.requires.pc read u.setting u.bytes outs u.direction g solve c.requires.input.direction c.requires.position
    ∙ ap (λ xs. xs ++ outs input.index (goto c.in_ok-first.second (at p g))) (c.fails.ensures c.if-fails.true outs g solve))

pub returns-then-fails-clause-costs : goal.returns-then-fails-clause-costs
returns-then-fails-clause-costs c = λ outs costs g has.
    let read = c.in_ok-first.ensures in
    second_cost c.args.input.now c.requires.input outs costs has g c.args.place c.in_ok-first.first c.in_ok-first.second c.requires.pc read c.requires.position
