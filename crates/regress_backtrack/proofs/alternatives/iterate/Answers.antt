use Rattle.std.proofs.Common.{rules, arith, ◌≡◌, ◌+◌, ◌≤◌, ◌++◌, ◌∷◌, All, IfOk, false, flat_map, subst, sym}
use Rattle.regress_program.specs.Program.{either}
use Rattle.regress_backtrack.specs.declared.machine.Place.{Place}
use Rattle.regress_backtrack.specs.Costs.{cost_ahead, points_cost}
use Rattle.regress_backtrack.specs.Machine.{at, groups_of, points}
use Rattle.regress_backtrack.specs.Next.{Inside, Leads, ahead}
use Rattle.regress_backtrack.proofs.StepLemmas.{ok_map}
use Rattle.regress_backtrack.proofs.alternatives.iterate.Goals as goal

pub returns-in-Some-clause-leads : goal.returns-in-Some-clause-leads
returns-in-Some-clause-leads c = λ outs solve.
    let out = outs c.args.input.now.index in
    let m = c.args.machine.now in
    let m' = c.sweep.new.machine in
    let g = groups_of m in
    let again : Place = record { pc = c.args.looping.body; moved = false; position = c.args.here.position } in
    let after : Place = record { pc = c.args.looping.next; moved = c.args.here.moved; position = c.args.here.position } in
    let swept : (out (at again g) ++ out (at after g)) ++ flat_map out (points m) ≡ flat_map out (at c.in-Some.to (groups_of m') ∷ points m') =
    (rw c.in-Some.is at c.in_ok-to.ensures.leads) outs solve in
    subst (λ greedy. Leads (either out greedy (at again g) (at after g) ++ flat_map out (points m)) out m' c.on.result) (sym c.if-looping.true)
    (subst (λ states. Leads states out m' c.on.result) (sym swept) (c.on.ensures.leads m' outs solve))

pub returns-in-None-clause-leads : goal.returns-in-None-clause-leads
returns-in-None-clause-leads c =
    let input = c.args.input.now in
    let m = c.args.machine.now in
    let g = groups_of m in
    let again : Place = record { pc = c.args.looping.body; moved = false; position = c.args.here.position } in
    let after : Place = record { pc = c.args.looping.next; moved = c.args.here.moved; position = c.args.here.position } in
    let same : c.sweep.new.machine ≡ m = search rules in
    ok_map c.fork.result _ _
    (λ to leads. λ outs solve.
    subst (λ greedy. Leads (either (outs input.index) greedy (at again g) (at after g) ++ flat_map (outs input.index) (points m)) (outs input.index)
    c.fork.new.machine to) (sym c.if-looping.true)
    (subst (λ x. Leads ((outs input.index (at again (groups_of x)) ++ outs input.index (at after (groups_of x))) ++ flat_map (outs input.index) (points x))
    (outs input.index) c.fork.new.machine to) same (leads outs solve)))
    c.fork.ensures.leads

pub returns-else-looping-clause-leads : goal.returns-else-looping-clause-leads
returns-else-looping-clause-leads c =
    let input = c.args.input.now in
    let m = c.args.machine.now in
    let g = groups_of m in
    let again : Place = record { pc = c.args.looping.body; moved = false; position = c.args.here.position } in
    let after : Place = record { pc = c.args.looping.next; moved = c.args.here.moved; position = c.args.here.position } in
    ok_map c.fork-else-looping.result _ _
    (λ to leads. λ outs solve.
    subst (λ greedy. Leads (either (outs input.index) greedy (at again g) (at after g) ++ flat_map (outs input.index) (points m)) (outs input.index)
    c.fork-else-looping.new.machine to) (sym c.if-looping.false) (leads outs solve))
    c.fork-else-looping.ensures.leads

pub returns-in-Some-clause-costs : goal.returns-in-Some-clause-costs
returns-in-Some-clause-costs c = λ outs costs has.
    let input = c.args.input.now in
    let m = c.args.machine.now in
    let m' = c.sweep.new.machine in
    let g = groups_of m in
    let cost = costs input.index in
    let again : Place = record { pc = c.args.looping.body; moved = false; position = c.args.here.position } in
    let after : Place = record { pc = c.args.looping.next; moved = c.args.here.moved; position = c.args.here.position } in
    let taken : c.args.remaining.now + (cost (at c.in-Some.to (groups_of m')) + points_cost cost m')
    ≤ c.sweep.new.remaining + ((cost (at again g) + cost (at after g)) + points_cost cost m) =
    (rw c.in-Some.is at c.in_ok-to.ensures.costs) outs costs has in
    let ahead = c.on.ensures.costs m' cost in
    omega (arith, taken, ahead)

pub returns-in-None-clause-costs : goal.returns-in-None-clause-costs
returns-in-None-clause-costs c =
    let input = c.args.input.now in
    let m = c.args.machine.now in
    let again : Place = record { pc = c.args.looping.body; moved = false; position = c.args.here.position } in
    let after : Place = record { pc = c.args.looping.next; moved = c.args.here.moved; position = c.args.here.position } in
    let same : c.sweep.new.machine ≡ m = search rules in
    let kept : c.sweep.new.remaining ≡ c.args.remaining.now = search rules in
    ok_map c.fork.result _ _
    (λ to less. λ outs costs has.
    let cost = costs input.index in
    let all = subst (λ x. cost_ahead cost c.fork.new.machine to ≤ (cost (at again (groups_of x)) + cost (at after (groups_of x))) + points_cost cost x)
    same (less outs costs has) in
    omega (arith, all, kept))
    c.fork.ensures.costs

pub returns-else-looping-clause-costs : goal.returns-else-looping-clause-costs
returns-else-looping-clause-costs c =
    ok_map c.fork-else-looping.result _ _
    (λ to less. λ outs costs has. let all = less outs costs has in omega (arith, all)) c.fork-else-looping.ensures.costs

pub returns-in-None-clause-inside : goal.returns-in-None-clause-inside
returns-in-None-clause-inside c =
    let input = c.args.input.now in
    let same : c.sweep.new.machine ≡ c.args.machine.now = search rules in
    subst (λ x. IfOk c.fork.result (λ to. All (Inside input) (points x) → All (Inside input) (ahead c.fork.new.machine to))) same c.fork.ensures.inside
