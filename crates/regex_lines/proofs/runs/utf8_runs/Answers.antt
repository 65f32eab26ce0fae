use Rattle.std.proofs.Common.{map}
use Rattle.regex_lines.specs.Reply.{run_of}
use Rattle.regex_lines.proofs.RunLemmas.{last, last_order, next}
use Rattle.regex_lines.proofs.runs.utf8_runs.Goals as goal

pub loop-chunk-preserved : goal.loop-chunk-preserved
loop-chunk-preserved c =
    let steps = c.in-Some.ensures.steps in
    rw (c.valid-text.ensures, c.invalid.ensures) (next c.args.line.now (map run_of c.loop-chunk.found.items) _ c.loop-chunk.start _ _ _ _ c.loop-chunk.invariant steps.0 steps.1 steps.3.0 steps.3.1
    (rw c.valid-text.ensures at c.in_ok-add_run.ensures))

pub returns-clause-runs : goal.returns-clause-runs
returns-clause-runs c = last c.args.line.now _ c.loop-chunk.start _ c.loop-chunk.invariant c.in-None.ensures.steps.0

pub returns-clause-order : goal.returns-clause-order
returns-clause-order c = last_order c.args.line.now _ c.loop-chunk.start _ c.loop-chunk.invariant c.in-None.ensures.steps.0
