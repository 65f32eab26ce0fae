-- Finding one more match with a matcher moves the search to the right.
use Rattle.std.proofs.Common.{◌≡◌, ℕ, ◌+◌, ◌-◌, ◌<◌, length, ap, ap₂, arith}
use Rattle.regress_found.specs.Found.{IsLeftmost}
use Rattle.regress_found.specs.declared.found.Match.{Match}
use Rattle.regress_match.specs.Iterated.{IsSameIteration, iterated_from, iterated_outcomes, iterated_text}
use Rattle.regress_match.specs.Pattern.{matcher_outcomes}
use Rattle.regress_found.specs.Repeated.{next_offset}
use Rattle.regress_match.specs.declared.matcher_matches.MatcherMatches.{MatcherMatches}

-- the measure of a loop over all matches
abbrev pub remaining : MatcherMatches → ℕ
remaining s = length (iterated_text s) + 2 - iterated_from s

pub remaining-falls : (old new : MatcherMatches) (m : Match) → IsLeftmost (iterated_text old) (iterated_outcomes old) (iterated_from old) m →
    iterated_from new ≡ next_offset m → iterated_text new ≡ iterated_text old → remaining new < remaining old
remaining-falls old new m found next same = omega (arith, found.from, found.boundary.0, next, ap length same)

-- the outcomes stay the same
pub same_outcomes : (old new : MatcherMatches) → IsSameIteration old new → iterated_outcomes new ≡ iterated_outcomes old
same_outcomes old new same = ap₂ matcher_outcomes same.matcher same.text
