-- the ranges so far
use Rattle.regress_explain.proofs.MarkedLemmas.{MarkedSoFar}
use Rattle.regress_explain.proofs.matched.write_marked.Given as goal

abbrev pub invariant-loop-range : goal.invariant-loop-range
invariant-loop-range l = MarkedSoFar l.text l.ranges l.range-index l.at l.initial.page l.page
