use Rattle.std.proofs.Common.{arith}
use Rattle.regress_backtrack.specs.Backtracker.{run_code, run_room, run_tables, run_text}
use Rattle.regress_backtrack.specs.Run.{IsResponseOf}
use Rattle.regress_backtrack.proofs.SearchLemmas.{of_tree, run_cost, run_entries, run_solved}
use Rattle.regress_backtrack.proofs.StepLemmas.{err_map, ok_map}
use Rattle.regress_backtrack.proofs.backtracker.Backtracker.run_at.Goals as goal

pub run-requires : goal.run-requires
run-requires c = record {
  program = (run_code c.args.self.now).program.is_program;
  input = c.args.self.now.for_pattern.is;
  start = c.requires.position;
}

pub returns-clause-solved : goal.returns-clause-solved
returns-clause-solved c =
    ok_map c.run.result _ _
    (λ r responds. run_solved c.args.self.now c.args.machine.now.captures.items c.args.position c.run.new.machine r
    c.requires.unset responds)
    c.run.ensures.responds

pub returns-clause-first : goal.returns-clause-first
returns-clause-first c =
    let b = c.args.self.now in
    ok_map c.run.result _ _
    (λ r responds. of_tree (run_code b) (run_tables b) (run_text b) c.args.position c.requires.position (λ states. IsResponseOf states c.run.new.machine r)
    (run_solved b c.args.machine.now.captures.items c.args.position c.run.new.machine r c.requires.unset responds))
    c.run.ensures.responds

pub returns-clause-costs : goal.returns-clause-costs
returns-clause-costs c =
    ok_map c.run.result _ _
    (λ r taken. λ outs costs. (run_cost c.args.self.now c.args.machine.now.captures.items c.args.position c.args.remaining.now
    c.run.new.remaining outs costs c.requires.unset (taken outs costs)))
    c.run.ensures.costs

pub returns-clause-too_much : goal.returns-clause-too_much
returns-clause-too_much c =
    err_map c.run.result _ _
    (λ fault full. λ is outs costs are.
    let le = run_entries c.args.self.now c.args.machine.now.captures.items c.args.position (run_room c.args.self.now) outs costs
    c.requires.unset (full is outs costs) are in
    omega (arith, le))
    c.run.ensures.too_much
