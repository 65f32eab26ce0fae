use Rattle.std.proofs.Common.{◌≡◌, ◌++◌, vec_len}
use Rattle.regress_parse.specs.Recorded.{joined_in_reverse}
use Rattle.regress_parse.proofs.recording.push_reversed.Given as goal

abbrev pub invariant-loop-part : goal.invariant-loop-part
invariant-loop-part l = l.spans.items ++ joined_in_reverse l.parts.items ≡ l.fn.spans.items ++ joined_in_reverse l.fn.parts.items

abbrev pub decreases-loop-part : goal.decreases-loop-part
decreases-loop-part l = vec_len l.parts
