use Rattle.std.proofs.Common.{subst}
use Rattle.regress_code.specs.Rows.{IsPassed}
use Rattle.regress_backtrack.proofs.RowLemmas.{passed_cost, same_passed}
use Rattle.regress_backtrack.proofs.alternatives.next_in_row.Goals as goal

pub returns-in-Some-clause-same : goal.returns-in-Some-clause-same
returns-in-Some-clause-same c = λ outs g solve.
    let input = c.args.input.now in
    let p = c.args.place in
    same_passed input c.requires.input p c.in-Some.row.now c.in-Some.ensures.row c.in-Some.ensures.folds c.requires.position g outs solve p.pc c.next_choice.result
    c.next_choice.ensures.within
    (λ j low high. subst (λ text. IsPassed c.in-Some.row.now text p.position j) c.as_bytes.ensures.value (c.next_choice.ensures.passed j low high))

pub returns-in-Some-clause-costs : goal.returns-in-Some-clause-costs
returns-in-Some-clause-costs c = λ outs costs g has.
    let input = c.args.input.now in
    let p = c.args.place in
    passed_cost input c.requires.input p c.in-Some.row.now c.in-Some.ensures.row c.in-Some.ensures.folds c.requires.position g outs costs has p.pc c.next_choice.result
    c.next_choice.ensures.within
    (λ j low high. subst (λ text. IsPassed c.in-Some.row.now text p.position j) c.as_bytes.ensures.value (c.next_choice.ensures.passed j low high))
