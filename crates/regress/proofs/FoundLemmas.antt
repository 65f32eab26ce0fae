-- The matches that an iteration has found.
use Rattle.std.proofs.Common.{◌≡◌, ◌∙◌, ℕ, ◌-◌, ◌<◌, false, List, [], ◌∷◌, ◌++◌, Option, Some, None, All, length, map, refl, subst, sym, option_map, arith}
use Rattle.std.specs.Prelude.{◌↔◌, IfNone, IfSome, IsSome, IsTrue, Ok, is_some}
use Rattle.std.proofs.lemmas.List.{map-append}
use Rattle.std.proofs.lemmas.List.Elements.{All-cons, All-head, All-nil, All-push, All-tail}
use Rattle.regress_front.specs.Steps.{MatchState}
use Rattle.regress_front.specs.WellFormed.{Capture}
use Rattle.regress_found.specs.declared.found.Match as matcher
use Rattle.regress_found.specs.Found.{IsInside, IsLeftmost, start_of}
use Rattle.regress_found.specs.Results.{IfOutOfSteps}
use Rattle.regress_found.specs.declared.outcome.Outcome.{Outcome}
use Rattle.regress_found.specs.declared.outcome.Outcome.TheVariants as outcomes
use Rattle.regress_match.specs.Costs.{IsWithinFindCost}
use Rattle.regress_match.specs.Matcher.{IsLimited, IsLinear}
use Rattle.regress_match.specs.declared.matcher.Matcher.{Matcher}
use Rattle.regress_found.specs.Repeated.{AreAllMatches, AreMatches}
use Rattle.regress_match.proofs.lemmas.Searched.{AreMatches-more}
use Rattle.regress_found.specs.Found as one
use Rattle.regress_replace.specs.Order.{AreInOrder}
use Rattle.regress_replace.proofs.lemmas.Found.{AreMatches-in_order}
use Rattle.regress.specs.Compiled.{groups_in, match_of}
use Rattle.regress.specs.Searched.{Advances, MatchesSomewhere, has_failed, next_from, searched_factor, searched_groups, searched_outcomes, searched_text}
use Rattle.regress.specs.Replaced.{AreFirstMatches}
use Rattle.regress.specs.declared.found.Match.{Match}
use Rattle.regress.specs.declared.search.Matches.{Matches}

-- What follows from a fact without a bound.
pub map_none : (o : Option ℕ) (P Q : Type 0) → (P → Q) → IfNone o P → IfNone o Q
map_none None P Q f p = f p
map_none (Some n) P Q f p = tt

-- A search finds a match exactly if there is one.
pub somewhere : (text : List ℕ) (at : ℕ → List MatchState) (found : Option Match) → one.Finds text at 0 (option_map match_of found) →
    IsTrue (is_some found) ↔ MatchesSomewhere text at
somewhere text at (Some m) finds = (
  (λ some. (start_of (match_of m), finds.boundary, λ none. let bad : ⊥ = cc (finds.first.1, none) in bad)),
  (λ there. refl),
)
somewhere text at None finds = (
  (λ some. let bad : ⊥ = cc in absurd bad),
  (λ there. absurd (there.2 (finds there.0 (omega arith) there.1))),
)

-- The iteration has found these matches without an error, and goes on after them.
pub record HasFound (text : List ℕ) (at : ℕ → List MatchState) (now : Matches) (ms : List matcher.Match) : Type 0 where
  pub same_text : searched_text now ≡ text
  pub same_outcomes : searched_outcomes now ≡ at
  pub failed : has_failed now ≡ false
  pub found : AreMatches text at 0 (next_from now) ms
  pub inside : All (IsInside text) ms

pub begins : (text : List ℕ) (at : ℕ → List MatchState) (now : Matches) → searched_text now ≡ text → searched_outcomes now ≡ at →
    has_failed now ≡ false → next_from now ≡ 0 → HasFound text at now []
begins text at now same_text same_outcomes failed from = record {
  same_text = same_text;
  same_outcomes = same_outcomes;
  failed = failed;
  found = from;
  inside = All-nil (IsInside text);
}

module _ (text : List ℕ) (at : ℕ → List MatchState) (now : Matches) (ms : List matcher.Match) (sofar : HasFound text at now ms) where
  pub one_more : (new : Matches) (m : Match) → Advances now (Some (Ok m)) new → HasFound text at new (ms ++ match_of m ∷ [])
  one_more new m step =
      let next = step.yields.0 in
      let here : IsLeftmost text at (next_from now) (match_of m) =
      subst (λ t. IsLeftmost t at (next_from now) (match_of m)) sofar.same_text
      (subst (λ f. IsLeftmost (searched_text now) f (next_from now) (match_of m)) sofar.same_outcomes next.leftmost) in
      record {
        same_text = step.same.text ∙ sofar.same_text;
        same_outcomes = step.same.outcomes ∙ sofar.same_outcomes;
        failed = step.yields.1;
        found = subst (λ k. AreMatches text at 0 k (ms ++ match_of m ∷ [])) (sym next.goes_on)
            (AreMatches-more text at 0 (next_from now) ms (match_of m) sofar.found here);
        inside = All-push (IsInside text) ms (match_of m) sofar.inside (subst (λ t. IsInside t (match_of m)) sofar.same_text next.inside);
      }

  -- no match remains
  none_left : (new : Matches) → Advances now None new → one.Finds text at (next_from now) None
  none_left new step =
      subst (λ t. one.Finds t at (next_from now) None) sofar.same_text
      (subst (λ f. one.Finds (searched_text now) f (next_from now) None) sofar.same_outcomes (step.yields sofar.failed))

  pub all_found : (new : Matches) → Advances now None new → AreAllMatches text at ms
  all_found new step = record { to = next_from now; found = sofar.found; none = none_left new step }

  -- fewer than n matches, after which none remains
  pub fewer_found : (n : ℕ) → length ms < n → (new : Matches) → Advances now None new → AreFirstMatches text at n ms
  fewer_found n few new step = record {
    to = next_from now;
    found = sofar.found;
    few = omega (arith, few);
    all = λ _. none_left new step;
  }

  pub in_order : AreInOrder 0 ms
  in_order = AreMatches-in_order text at 0 (next_from now) ms sofar.found

-- The same for matches with the groups of the pattern, with this bound for the steps if searches are linear.
pub record HasFoundWith (text : List ℕ) (at : ℕ → List MatchState) (groups : List Capture) (factor : Option ℕ) (now : Matches) (ms : List Match) : Type 0 where
  pub found : HasFound text at now (map match_of ms)
  pub same_groups : searched_groups now ≡ groups
  pub same_factor : searched_factor now ≡ factor
  pub named : All (λ m. groups_in m ≡ groups) ms

pub begins_with : (text : List ℕ) (at : ℕ → List MatchState) (groups : List Capture) (factor : Option ℕ) (now : Matches) →
    searched_text now ≡ text → searched_outcomes now ≡ at → searched_groups now ≡ groups → searched_factor now ≡ factor →
    has_failed now ≡ false → next_from now ≡ 0 → HasFoundWith text at groups factor now []
begins_with text at groups factor now same_text same_outcomes same_groups same_factor failed from = record {
  found = begins text at now same_text same_outcomes failed from;
  same_groups = same_groups;
  same_factor = same_factor;
  named = All-nil (λ m. groups_in m ≡ groups);
}

pub one_more_with : (text : List ℕ) (at : ℕ → List MatchState) (groups : List Capture) (factor : Option ℕ) (now : Matches) (ms : List Match) →
    HasFoundWith text at groups factor now ms → (new : Matches) (m : Match) → Advances now (Some (Ok m)) new →
    HasFoundWith text at groups factor new (ms ++ m ∷ [])
one_more_with text at groups factor now ms sofar new m step = record {
  found = subst (HasFound text at new) (sym (map-append match_of ms (m ∷ [])))
      (one_more text at now (map match_of ms) sofar.found new m step);
  same_groups = step.same.groups ∙ sofar.same_groups;
  same_factor = step.same.linear ∙ sofar.same_factor;
  named = All-push (λ m. groups_in m ≡ groups) ms m sofar.named (step.yields.0.groups ∙ sofar.same_groups);
}

-- what holds of the matches of a list holds of its elements
pub inside_each : (text : List ℕ) (ms : List Match) → All (IsInside text) (map match_of ms) → All (λ m. IsInside text (match_of m)) ms
inside_each text [] inside = All-nil (λ m. IsInside text (match_of m))
inside_each text (m ∷ ms) inside =
    All-cons (λ m. IsInside text (match_of m)) m ms (All-head (IsInside text) (match_of m) (map match_of ms) inside)
    (inside_each text ms (All-tail (IsInside text) (match_of m) (map match_of ms) inside))

-- ---- a linear search is never out of steps

pub never_out : (factor : Option ℕ) (text : List ℕ) (outcome : Outcome) (steps : ℕ) → IfSome factor (λ n. IsLinear n text outcome steps) →
    outcome ≡ outcomes.OutOfSteps → factor ≡ None
never_out None text outcome steps linear is = refl
never_out (Some n) text outcome steps linear is = absurd (subst (λ o. IfOutOfSteps o ⊥) is linear.1)

-- A search that is out of steps costs at least its limit.
pub costs_limit : (m : Matcher) (text : List ℕ) (from limit : ℕ) (factor : Option ℕ) (outcome : Outcome) (steps : ℕ) →
    IfSome factor (λ n. IsLinear n text outcome steps) → IfNone factor (IsLimited limit outcome steps) →
    IfNone factor (IsWithinFindCost m text from steps) → outcome ≡ outcomes.OutOfSteps → IsWithinFindCost m text from limit
costs_limit m text from limit None outcome steps bounded limited within is =
    let all : steps ≡ limit = subst (λ o. IfOutOfSteps o (steps ≡ limit)) is limited.1 in
    subst (IsWithinFindCost m text from) all within
costs_limit m text from limit (Some n) outcome steps bounded limited within is = absurd (subst (λ o. IfOutOfSteps o ⊥) is bounded.1)

pub never_out_next : (factor : Option ℕ) (outcome : Outcome) → IfSome factor (λ _. IfOutOfSteps outcome ⊥) → outcome ≡ outcomes.OutOfSteps →
    factor ≡ None
never_out_next None outcome linear is = refl
never_out_next (Some n) outcome linear is = absurd (subst (λ o. IfOutOfSteps o ⊥) is linear)

-- A search for the next match that is out of steps costs at least those that remained.
pub costs_remaining : (m : Matcher) (text : List ℕ) (from before after : ℕ) (factor : Option ℕ) (outcome : Outcome) →
    IfSome factor (λ _. IfOutOfSteps outcome ⊥) → IfNone factor (IfOutOfSteps outcome (after ≡ 0)) →
    IsWithinFindCost m text from (before - after) → outcome ≡ outcomes.OutOfSteps → IsWithinFindCost m text from before
costs_remaining m text from before after None outcome linear limited within is =
    let none : after ≡ 0 = subst (λ o. IfOutOfSteps o (after ≡ 0)) is limited in
    let all : before - after ≡ before = omega (arith, none) in
    subst (IsWithinFindCost m text from) all within
costs_remaining m text from before after (Some n) outcome linear limited within is = absurd (subst (λ o. IfOutOfSteps o ⊥) is linear)

pub never_none : {X : Type 0} (factor : Option ℕ) (found : Option X) → IfSome factor (λ _. IsSome found) → found ≡ None → factor ≡ None
never_none None found linear is = refl
never_none (Some n) found linear is = let bad : ⊥ = cc in absurd bad
