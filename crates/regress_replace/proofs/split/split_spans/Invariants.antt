-- The spans so far and those of the rest of the text are together all spans.
use Rattle.std.proofs.Common.{◌≡◌, ◌++◌, drop}
use Rattle.regress_replace.specs.Split.{spans_from}
use Rattle.regress_replace.proofs.split.split_spans.Given as goal

abbrev pub invariant-loop-found : goal.invariant-loop-found
invariant-loop-found l = l.spans.items ++ spans_from l.length l.from (drop l.found-index l.matches) ≡ spans_from l.length 0 l.matches
