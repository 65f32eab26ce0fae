use Rattle.std.proofs.Common.{◌≡◌, ◌++◌, replicate}
use Rattle.regress_parse.proofs.recording.push_copies.Given as goal

abbrev pub invariant-loop-i : goal.invariant-loop-i
invariant-loop-i l = l.spans.items ≡ l.fn.spans.items ++ replicate l._i l.span
