-- The memory of lists of matches.
use Rattle.std.proofs.Common.{ℕ, ◌+◌, ◌*◌, ◌<◌, ◌≤◌, List, [], ◌∷◌, ◌++◌, length, length-append, arith}
use Rattle.std.proofs.Math.Nat.{mul-le-mul_left}
use Rattle.regress_found.specs.Repeated.{AreMatches}
use Rattle.regress_found.specs.declared.found.Match.{Match}
use Rattle.regress_match.specs.Memory.{MatchesNeedMore, match_bytes, memory_of}
use Rattle.regress_match.specs.Pattern.{matcher_outcomes}
use Rattle.regress_match.specs.declared.matcher.Matcher.{Matcher}

-- a list that has room for as many elements as it may
pub is_held : (bytes memory most room : ℕ) → bytes * most ≤ memory → room ≤ most → bytes * room ≤ memory
is_held bytes memory most room within few = let more = mul-le-mul_left bytes few in omega (arith, more, within)

takes_more : (bytes memory most n : ℕ) → memory < bytes * (most + 1) → most + 1 ≤ n → memory < bytes * n
takes_more bytes memory most n few many = let more = mul-le-mul_left bytes many in omega (arith, more, few)

-- A list of matches from `from` on that has as many as it may, and one more match.
pub matches_need_more : (m : Matcher) (text : List ℕ) (from to : ℕ) (ms : List Match) (x : Match) →
    AreMatches text (matcher_outcomes m text) from to (ms ++ x ∷ []) →
    (most : ℕ) → most ≤ length ms → memory_of m < match_bytes m * (most + 1) → MatchesNeedMore m text from
matches_need_more m text from to ms x found most full few = record {
  ms = ms ++ x ∷ [];
  to = to;
  found = found;
  more = takes_more (match_bytes m) (memory_of m) most (length (ms ++ x ∷ [])) few (omega (arith, full, length-append ms (x ∷ [])));
}
