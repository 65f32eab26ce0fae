use Rattle.std.proofs.Common.{ap, arith, length}
use Rattle.regex_lines.proofs.failure.report_paths.Goals as goal

pub loop-path-preserved : goal.loop-path-preserved
loop-path-preserved g c none = absurd (omega (arith, c.loop-path-test.true, ap length none))
