use Rattle.std.proofs.Common.{◌≡◌, ◌++◌, vec_len}
use Rattle.regress_lexer.specs.Views.{source}
use Rattle.regress_parse.specs.Recorded.{alternations}
use Rattle.regress_parse.proofs.recording.record_alternations.Given as goal

abbrev pub invariant-loop-left : goal.invariant-loop-left
invariant-loop-left l =
    l.spans.items ++ alternations l.around.whole l.starts.items (source l.cursor)
    ≡ l.fn.spans.items ++ alternations l.around.whole l.fn.starts.items (source l.cursor)

abbrev pub decreases-loop-left : goal.decreases-loop-left
decreases-loop-left l = vec_len l.starts
