use Rattle.std.proofs.Common.{◌++◌, arith, true, ap, ap₂, sym, ◌∙◌}
use Rattle.regress_backtrack.specs.Machine.{at}
use Rattle.regress_backtrack.proofs.CostLemmas.{at_repeat_cost}
use Rattle.regress_backtrack.proofs.SweepLemmas.{at_repeat_on}
use Rattle.regress_backtrack.proofs.sweep.leave.Goals as goal

pub returns-then-fails-clause-same : goal.returns-then-fails-clause-same
returns-then-fails-clause-same c = λ outs g solve.
    let input = c.args.input.now in
    let out = outs input.index in
    let looping = c.args.looping in
    let k = c.args.to.position in
    let after = out (at (record { pc = looping.next; moved = true; position = k }) g) in
    c.skip.ensures.same outs g solve
    ∙ ap (λ b. out (at (record { pc = looping.next; moved = b; position = k }) g)) c.requires.moved
    ∙ sym (at_repeat_on input c.requires.input looping c.args.swept.set.now c.args.swept.repeat_pc c.requires.swept c.requires.body outs solve g k c.requires.position
    ∙ ap (λ xs. xs ++ after) (c.fails.ensures c.if-fails.true outs g solve))
    ∙ ap₂ (λ pc b. out (at (record { pc = pc; moved = b; position = k }) g)) (sym c.requires.pc) (sym c.requires.moved)

pub returns-then-fails-clause-costs : goal.returns-then-fails-clause-costs
returns-then-fails-clause-costs c = λ outs costs g has.
    let input = c.args.input.now in
    let cost = costs input.index in
    let looping = c.args.looping in
    let k = c.args.to.position in
    let both = at_repeat_cost input c.requires.input looping c.args.swept.set.now c.args.swept.repeat_pc c.requires.swept c.requires.body outs costs has g k c.requires.position in
    let less = c.skip.ensures.costs outs costs g has in
    let after = ap (λ b. cost (at (record { pc = looping.next; moved = b; position = k }) g)) c.requires.moved in
    let end = ap₂ (λ pc b. cost (at (record { pc = pc; moved = b; position = k }) g)) c.requires.pc c.requires.moved in
    omega (arith, both, less, after, end)
