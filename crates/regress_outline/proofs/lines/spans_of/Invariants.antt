-- a span for each line so far
use Rattle.std.proofs.Common.{◌≡◌, length}
use Rattle.regress_outline.proofs.lines.spans_of.Given as goal

abbrev pub invariant-loop-line : goal.invariant-loop-line
invariant-loop-line l = length l.spans.items ≡ l.line-index
