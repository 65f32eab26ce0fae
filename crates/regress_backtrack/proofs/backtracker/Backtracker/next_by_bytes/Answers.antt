use Rattle.std.proofs.Common.{inl, inr}
use Rattle.std.proofs.lemmas.Bool.{cases_lt}
use Rattle.regress_found.specs.Found.{initial_state}
use Rattle.regress_code.specs.Code.{code_groups, setting_with}
use Rattle.regress_backtrack.specs.Backtracker.{run_code, run_tables, run_text}
use Rattle.regress_backtrack.proofs.backtracker.Backtracker.next_by_bytes.Goals as goal

pub returns-in-Some-clause-skipped : goal.returns-in-Some-clause-skipped
returns-in-Some-clause-skipped c = λ outs solution k low le lt.
    let b = c.args.self.now in
    let code = run_code b in
    let position = c.in-Some.position in
    let next = rw c.in-Some.is at c.next_candidate_from.ensures.next in
    elim (cases_lt k position) [
      | inl before ↦ code.begins (setting_with code (run_tables b)) (run_text b) outs solution (initial_state (code_groups code) k) le (next.2 k low before)
      | inr after ↦ c.next_by_first_bytes.ensures.skipped outs solution k after le lt
    ]

pub returns-in-None-clause-skipped : goal.returns-in-None-clause-skipped
returns-in-None-clause-skipped c = λ outs solution k low le any.
    let b = c.args.self.now in
    let code = run_code b in
    let none = rw c.in-None.is at c.next_candidate_from.ensures.next in
    code.begins (setting_with code (run_tables b)) (run_text b) outs solution (initial_state (code_groups code) k) le (none k low)
