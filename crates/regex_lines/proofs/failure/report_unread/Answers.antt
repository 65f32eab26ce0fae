use Rattle.std.proofs.Common.{ap, arith, length}
use Rattle.regex_lines.proofs.failure.report_unread.Goals as goal

pub loop-input-preserved : goal.loop-input-preserved
loop-input-preserved g c none = absurd (omega (arith, c.loop-input-test.true, ap length none))
