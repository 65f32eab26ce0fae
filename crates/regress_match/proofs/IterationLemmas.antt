-- A search for all matches, between two of them.
use Rattle.std.proofs.Common.{◌≡◌, ◌∙◌, ℕ, List, [], ◌∷◌, ◌++◌, subst, sym}
use Rattle.regress_found.specs.declared.found.Match.{Match}
use Rattle.regress_match.specs.Iterated.{IsSameIteration, iterated_from, iterated_matcher, iterated_text}
use Rattle.regress_found.specs.Results.{IsSearchResult}
use Rattle.regress_match.specs.Memory.{NextNeedsMore, SearchNeedsMore}
use Rattle.regress_match.specs.Pattern.{matcher_outcomes}
use Rattle.regress_found.specs.Repeated.{AreAllMatches, AreMatches, next_offset}
use Rattle.regress_match.specs.declared.matcher.Matcher.{Matcher}
use Rattle.regress_match.specs.declared.matcher_matches.MatcherMatches.{MatcherMatches}
use Rattle.regress_found.specs.declared.outcome.Outcome.{Outcome}
use Rattle.regress_found.specs.declared.outcome.Outcome.TheVariants as outcomes
use Rattle.regress_match.proofs.lemmas.Searched.{AreMatches-more}

-- the search has found these matches, and goes on after them
pub record HasFound (matcher : Matcher) (text : List ℕ) (now : MatcherMatches) (ms : List Match) : Type 0 where
  pub same_matcher : iterated_matcher now ≡ matcher
  pub same_text : iterated_text now ≡ text
  pub found : AreMatches text (matcher_outcomes matcher text) 0 (iterated_from now) ms

module _ (matcher : Matcher) (text : List ℕ) (now : MatcherMatches) (ms : List Match) (sofar : HasFound matcher text now ms) where
  here : (outcome : Outcome) → IsSearchResult (iterated_text now) (matcher_outcomes (iterated_matcher now) (iterated_text now)) (iterated_from now) outcome →
      IsSearchResult text (matcher_outcomes matcher text) (iterated_from now) outcome
  here outcome finds =
      subst (λ t. IsSearchResult t (matcher_outcomes matcher t) (iterated_from now) outcome) sofar.same_text
      (subst (λ n. IsSearchResult (iterated_text now) (matcher_outcomes n (iterated_text now)) (iterated_from now) outcome) sofar.same_matcher finds)

  pub one_more : (new : MatcherMatches) (m : Match) →
      IsSearchResult (iterated_text now) (matcher_outcomes (iterated_matcher now) (iterated_text now)) (iterated_from now) (outcomes.Matched m) →
      iterated_from new ≡ next_offset m → IsSameIteration now new → HasFound matcher text new (ms ++ m ∷ [])
  one_more new m finds next same = record {
    same_matcher = same.matcher ∙ sofar.same_matcher;
    same_text = same.text ∙ sofar.same_text;
    found = subst (λ k. AreMatches text (matcher_outcomes matcher text) 0 k (ms ++ m ∷ [])) (sym next)
        (AreMatches-more text (matcher_outcomes matcher text) 0 (iterated_from now) ms m sofar.found (here (outcomes.Matched m) finds));
  }

  -- no match remains
  pub none_left : IsSearchResult (iterated_text now) (matcher_outcomes (iterated_matcher now) (iterated_text now)) (iterated_from now) outcomes.NoMatch →
      IsSearchResult text (matcher_outcomes matcher text) (iterated_from now) outcomes.NoMatch
  none_left none = here outcomes.NoMatch none

  pub all_found : IsSearchResult (iterated_text now) (matcher_outcomes (iterated_matcher now) (iterated_text now)) (iterated_from now) outcomes.NoMatch →
      AreAllMatches text (matcher_outcomes matcher text) ms
  all_found none = record { to = iterated_from now; found = sofar.found; none = none_left none }

  -- the search for the next match takes more memory than it may
  pub next_needs_more : SearchNeedsMore (iterated_matcher now) (iterated_text now) (iterated_from now) → NextNeedsMore matcher text 0
  next_needs_more needs = record {
    ms = ms;
    to = iterated_from now;
    found = sofar.found;
    more = subst (λ t. SearchNeedsMore matcher t (iterated_from now)) sofar.same_text
        (subst (λ m. SearchNeedsMore m (iterated_text now) (iterated_from now)) sofar.same_matcher needs);
  }
