-- The strings from `count` on are searched.
use Rattle.regress_strings.proofs.SearchLemmas.{IsSearchedFrom}
use Rattle.regress_strings.proofs.links.greatest_index.Given as goal

abbrev pub invariant-loop-count : goal.invariant-loop-count
invariant-loop-count l = IsSearchedFrom l.order l.text l.before l.count l.greatest

abbrev pub decreases-loop-count : goal.decreases-loop-count
decreases-loop-count l = l.count
