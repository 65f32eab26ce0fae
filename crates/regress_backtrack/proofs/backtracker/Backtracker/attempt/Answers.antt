use Rattle.regress_backtrack.specs.Backtracker.{run_code, run_tables}
use Rattle.regress_backtrack.proofs.backtracker.Backtracker.attempt.Goals as goal

pub returns-in-Some-clause-attempt : goal.returns-in-Some-clause-attempt
returns-in-Some-clause-attempt c =
    let b = c.args.self.now in (
      c.in-Some.ensures.low,
      λ outs are p low high on. c.in-Some.ensures.skipped (run_code b) (run_tables b) b.for_pattern outs are p low high,
    )
