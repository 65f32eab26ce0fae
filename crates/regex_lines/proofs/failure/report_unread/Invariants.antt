-- Nothing was written if there is no input.
use Rattle.std.proofs.Common.{◌≡◌, []}
use Rattle.regex_lines.proofs.failure.report_unread.Given as goal

abbrev pub invariant-loop-input : goal.invariant-loop-input
invariant-loop-input g l = l.fn.unread ≡ [] → l.err ≡ l.fn.err
