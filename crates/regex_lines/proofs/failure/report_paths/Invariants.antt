-- Nothing was written if there is no path.
use Rattle.std.proofs.Common.{◌≡◌, []}
use Rattle.regex_lines.proofs.failure.report_paths.Given as goal

abbrev pub invariant-loop-path : goal.invariant-loop-path
invariant-loop-path g l = l.fn.unread ≡ [] → l.err ≡ l.fn.err
