-- The numbers are those of the matches that the iteration has found.
use Rattle.regress_capi.proofs.SearchLemmas.{HasEnds}
use Rattle.regress_capi.proofs.searches.all_ends.Given as goal

abbrev pub invariant-loop-found : goal.invariant-loop-found
invariant-loop-found l = HasEnds l.regex l.text l.from l.found-iterator l.ends.items l.count
