use Rattle.regress_backtrack.specs.Backtracker.{outcomes_at, run_code, run_tables, run_text}
use Rattle.regress_backtrack.proofs.NextBytesLemmas.{entry_bounds}
use Rattle.regress_backtrack.proofs.backtracker.Backtracker.next_by_first_bytes.Goals as goal

pub returns-in-Some-clause-skipped : goal.returns-in-Some-clause-skipped
returns-in-Some-clause-skipped c = λ outs solution k low le high.
    let b = c.args.self.now in
    c.next_from.ensures.skipped k low high (outcomes_at b outs k)
    (entry_bounds (run_code b) (run_tables b) (run_text b) b.input b.for_pattern c.in-Some.next_byte.now c.in-Some.ensures outs solution k)
