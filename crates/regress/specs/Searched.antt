-- Whether there is a match, and searches for all matches.
use Rattle.std.specs.Prelude.{◌≡◌, ◌≢◌, ℕ, ◌-◌, ◌≤◌, Bool, true, false, List, [], map, Option, Some, None, Result, Ok, Err}
use Rattle.std.specs.Str.{IsCharBoundary}
use Rattle.regress_front.specs.Steps.{MatchState}
use Rattle.regress_front.specs.WellFormed.{Capture}
use Rattle.regress_found.specs.Found.{IsInside}
use Rattle.regress_found.specs.Found as one
use Rattle.regress_match.specs.Pattern.{capture_of}
use Rattle.regress_match.specs.Costs.{IsWithinFindCost}
use Rattle.regress_match.specs.Iterated.{HasCounted, iterated_from, iterated_matcher, iterated_outcomes, iterated_text, step_limit, steps_remaining, steps_taken}
use Rattle.regress_match.specs.Matcher.{factor_in}
use Rattle.regress_match.specs.Memory.{SearchNeedsMore}
use Rattle.regress_match.specs.declared.matcher.Matcher.{Matcher}
use Rattle.regress_found.specs.Repeated.{next_offset}
use Rattle.regress.specs.Compiled.{groups_in, match_of}
use Rattle.regress.specs.declared.failure.SearchError.{SearchError}
use Rattle.regress.specs.declared.failure.SearchError.TheVariants.{OutOfSteps, TooMuchMemory}
use Rattle.regress.specs.declared.found.Match.{Match}
use Rattle.regress.specs.declared.search.Matches.{Matches}

-- Some character boundary has an outcome.
abbrev pub MatchesSomewhere : (text : List ℕ) → (at : ℕ → List MatchState) → Type 0
MatchesSomewhere text at = (p : ℕ) × IsCharBoundary text p × (at p ≢ [])

-- the text that is searched
abbrev pub searched_text : Matches → List ℕ
searched_text m = iterated_text m.matches

-- the outcomes among which matches are found
abbrev pub searched_outcomes : Matches → (position : ℕ) → List MatchState
searched_outcomes m = iterated_outcomes m.matches

-- the byte offset from which the next match is searched
abbrev pub next_from : Matches → ℕ
next_from m = iterated_from m.matches

-- the capture groups of the pattern
abbrev pub searched_groups : Matches → List Capture
searched_groups m = map capture_of m.groups.now

-- the bound for the steps for each byte; none if the search only backtracks
abbrev pub searched_factor : Matches → Option ℕ
searched_factor m = factor_in (iterated_matcher m.matches) (iterated_text m.matches)

-- the step limit if it does, and the number of steps of it that remain
abbrev pub search_limit : Matches → ℕ
search_limit m = step_limit m.matches

abbrev pub search_remaining : Matches → ℕ
search_remaining m = steps_remaining m.matches

-- the number of steps that the search has taken
abbrev pub search_taken : Matches → ℕ
search_taken m = steps_taken m.matches

-- the program of the pattern
abbrev pub searched_matcher : Matches → Matcher
searched_matcher m = iterated_matcher m.matches

-- an error was returned
abbrev pub has_failed : Matches → Bool
has_failed m = m.failed

-- the text, the pattern, its groups, the bound and the step limit are unchanged, and steps are only spent
pub record IsSameSearch (old new : Matches) : Type 0 where
  pub text : searched_text new ≡ searched_text old
  pub outcomes : searched_outcomes new ≡ searched_outcomes old
  pub groups : searched_groups new ≡ searched_groups old
  pub linear : searched_factor new ≡ searched_factor old
  pub matcher : searched_matcher new ≡ searched_matcher old
  pub limit : search_limit new ≡ search_limit old
  pub spent : search_remaining new ≤ search_remaining old
  pub taken : search_taken old ≤ search_taken new

-- The next match: the leftmost one from the offset at which the search was, which goes on at its end. Its steps are counted,
-- and at most what a search for it costs.
pub record IsNext (old : Matches) (m : Match) (new : Matches) : Type 0 where
  pub leftmost : one.IsLeftmost (searched_text old) (searched_outcomes old) (next_from old) (match_of m)
  pub inside : IsInside (searched_text old) (match_of m)
  pub groups : groups_in m ≡ searched_groups old
  pub goes_on : next_from new ≡ next_offset (match_of m)
  pub counted : HasCounted old.matches new.matches (match_of m)
  pub costs : IsWithinFindCost (searched_matcher old) (searched_text old) (next_from old) (search_remaining old - search_remaining new)

-- No match remains.
abbrev pub IsOver : Matches → Type 0
IsOver m = one.Finds (searched_text m) (searched_outcomes m) (next_from m) None

-- The search for the next match may be out of steps: it only backtracks, and costs at least the steps that remain.
pub record IsTooCostly (m : Matches) : Type 0 where
  pub linear : searched_factor m ≡ None
  pub costs : IsWithinFindCost (searched_matcher m) (searched_text m) (next_from m) (search_remaining m)

-- An error of the search for the next match is due: it may be out of steps, or take more memory than it may. Out of memory it
-- states nothing.
pub record IsDue (m : Matches) (error : SearchError) : Type 0 where
  pub steps : error ≡ OutOfSteps → IsTooCostly m
  pub memory : error ≡ TooMuchMemory → SearchNeedsMore (searched_matcher m) (searched_text m) (next_from m)

-- What a search for the next match returns. An error leaves it where it was.
abbrev pub Returns : Matches → Result (Option Match) SearchError → Matches → Type 0
Returns old (Ok (Some m)) new = IsNext old m new
Returns old (Ok None) new = IsOver old
Returns old (Err e) new = (next_from new ≡ next_from old) × IsDue old e

pub record Proceeds (old : Matches) (r : Result (Option Match) SearchError) (new : Matches) : Type 0 where
  pub same : IsSameSearch old new
  pub failed : has_failed new ≡ has_failed old
  pub returns : Returns old r new

-- What a call of the iterator returns: the next match, an error, or `None`, which states that no match remains if there
-- was no error before.
abbrev pub Yields : Matches → Option (Result Match SearchError) → Matches → Type 0
Yields old (Some (Ok m)) new = IsNext old m new × (has_failed new ≡ false)
Yields old (Some (Err e)) new = (has_failed new ≡ true) × IsDue old e
Yields old None new = has_failed old ≡ false → IsOver old

-- A call of the iterator. After an error it returns nothing more.
pub record Advances (old : Matches) (item : Option (Result Match SearchError)) (new : Matches) : Type 0 where
  pub same : IsSameSearch old new
  pub ended : has_failed old ≡ true → item ≡ None
  pub yields : Yields old item new
