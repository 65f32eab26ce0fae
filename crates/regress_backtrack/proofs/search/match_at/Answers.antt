use Rattle.std.proofs.Common.{rules, ◌≡◌, ◌+◌, ◌*◌, ◌≤◌, IfErr, sym, ◌∙◌, arith}
use Rattle.regress_program.specs.Cost.{IsCost}
use Rattle.regress_code.specs.Code.{code_routines, match_cost, setting_with}
use Rattle.regress_found.specs.Results.{IsMatchResult}
use Rattle.regress_backtrack.specs.Backtracker.{run_room}
use Rattle.regress_backtrack.proofs.StepLemmas.{err_map}
use Rattle.regress_backtrack.proofs.SearchLemmas.{for_solution, for_tree, same_parts}
use Rattle.regress_backtrack.proofs.search.match_at.Goals as goal

pub returns-clause-solved : goal.returns-clause-solved
returns-clause-solved c =
    let made = c.new-backtracker.ensures in
    for_solution c.new-backtracker.result c.args.code.now c.args.known.tables.now c.args.text.now
    (λ text at. IsMatchResult c.args.position (at c.args.position) c.in_ok-outcome.outcome) made.code made.tables made.text c.in_ok-outcome.ensures.solved

pub returns-clause-first : goal.returns-clause-first
returns-clause-first c =
    let made = c.new-backtracker.ensures in
    for_tree c.new-backtracker.result c.args.code.now c.args.known.tables.now c.args.text.now
    (λ text at. IsMatchResult c.args.position (at c.args.position) c.in_ok-outcome.outcome) made.code made.tables made.text c.in_ok-outcome.ensures.first

pub returns-clause-costs : goal.returns-clause-costs
returns-clause-costs c = λ outs costs has.
    let made = c.new-backtracker.ensures in
    let steps = c.args.steps in
    let remaining = c.match_at.new.remaining in
    let taken : steps ≤ remaining + match_cost c.args.code.now c.args.known.tables.now c.args.text.now costs c.args.position =
    same_parts (λ code tables text. IsCost (setting_with code tables) text (code_routines code) outs costs →
    steps ≤ remaining + match_cost code tables text costs c.args.position) _ _ _ _ _ _ made.code made.tables made.text (c.in_ok-outcome.ensures.costs outs costs) has in
    omega (arith, taken)

pub returns-in_err-outcome-clause-too_much : goal.returns-in_err-outcome-clause-too_much
returns-in_err-outcome-clause-too_much c =
    let made = c.new-backtracker.ensures in
    let room = run_room c.new-backtracker.result in
    let the_fault : IfErr c.from_residual.result (λ fault. fault ≡ c.in_err-outcome.field-0.0) = search rules in
    err_map c.from_residual.result _ _
    (λ fault is. λ much outs costs has.
    let le : room ≤ 64 * match_cost c.args.code.now c.args.known.tables.now c.args.text.now costs c.args.position =
    same_parts (λ code tables text. IsCost (setting_with code tables) text (code_routines code) outs costs →
    room ≤ 64 * match_cost code tables text costs c.args.position) _ _ _ _ _ _ made.code made.tables made.text
    (c.in_err-outcome.ensures.too_much (sym is ∙ much) outs costs) has in
    omega (arith, le, made.room))
    the_fault
