-- the parts so far
use Rattle.regress_explain.proofs.SourceLemmas.{SourceSoFar}
use Rattle.regress_explain.proofs.source.+write_range.Given as goal

abbrev pub invariant-write_range-loop-part : goal.invariant-write_range-loop-part
invariant-write_range-loop-part l = SourceSoFar l.pattern l.range.start l.range.end l.at l.initial.page l.page
