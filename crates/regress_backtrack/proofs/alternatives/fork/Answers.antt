use Rattle.std.proofs.Common.{arith, ◌++◌, flat_map, ap, subst, sym, ◌∙◌}
use Rattle.regress_backtrack.specs.Machine.{groups_of, points}
use Rattle.regress_backtrack.specs.Next.{Leads}
use Rattle.regress_backtrack.proofs.CostLemmas.{chosen_cost}
use Rattle.regress_backtrack.proofs.RunLemmas.{only_first, only_second}
use Rattle.regress_backtrack.proofs.alternatives.fork.Goals as goal

pub returns-then-fails-clause-leads : goal.returns-then-fails-clause-leads
returns-then-fails-clause-leads c = λ outs solve.
    let out = outs c.args.input.now.index in
    let m = c.args.machine.now in
    let g = groups_of m in
    subst (λ states. Leads states out m c.on.result)
    (sym (only_second _ _ _ (c.fails.ensures c.if-fails.true outs g solve)
    ∙ ap (λ xs. xs ++ flat_map out (points m)) (sym (c.skip.ensures.same outs g solve))))
    (c.on.ensures.leads m outs solve)

pub returns-then-fails-2-clause-leads : goal.returns-then-fails-2-clause-leads
returns-then-fails-2-clause-leads c = λ outs solve. only_first _ _ _ (c.fails-2.ensures c.if-fails-2.true outs (groups_of c.args.machine.now) solve)

pub returns-then-fails-clause-costs : goal.returns-then-fails-clause-costs
returns-then-fails-clause-costs c = λ outs costs has.
    let le = c.skip.ensures.costs outs costs (groups_of c.args.machine.now) has in
    let ahead = c.on.ensures.costs c.args.machine.now (costs c.args.input.now.index) in
    omega (arith, le, ahead)

pub returns-clause-costs : goal.returns-clause-costs
returns-clause-costs c = λ outs costs has.
    chosen_cost (costs c.args.input.now.index) c.args.machine.now c.choose.new.self c.args.first c.args.second c.in_ok-choose.ensures.chosen
