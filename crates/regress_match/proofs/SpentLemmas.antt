-- The steps that a repeated search spends.
use Rattle.std.proofs.Common.{◌≡◌, ℕ, ◌+◌, ◌-◌, ◌^◌, ◌≤◌, List, Option, Some, None, ap, arith, min}
use Rattle.std.specs.Prelude.{IfSome}
use Rattle.regress_code.specs.Code.{captures_cost}
use Rattle.regress_found.specs.Tried.{positions_tried}
use Rattle.regress_found.specs.Results.{IfMatched}
use Rattle.regress_found.specs.declared.found.Match.{Match}
use Rattle.regress_found.specs.declared.outcome.Outcome.{Outcome}
use Rattle.regress_found.specs.declared.outcome.Outcome.TheVariants as outcomes
use Rattle.regress_tables.specs.TextSearch.{searched_code, searched_text}
use Rattle.regress_tables.specs.declared.text.TextSearch.{TextSearch}
use Rattle.regress_match.specs.Iterated.{HasCounted, IsSameIteration, Spends, iterated_from, iterated_matcher, iterated_text, steps_remaining}
use Rattle.regress_match.specs.Kept.{IsKept}
use Rattle.regress_match.specs.Matcher.{outcome_if}
use Rattle.regress_match.specs.declared.matcher.Matcher.{Matcher}
use Rattle.regress_match.specs.declared.matcher_matches.MatcherMatches.{MatcherMatches}

pub Spends-trans : (one two three : MatcherMatches) → Spends one two → Spends two three → Spends one three
Spends-trans one two three first second = record { remaining = omega (arith, first.remaining, second.remaining); taken = omega (arith, first.taken, second.taken) }

-- what holds of a match
pub matched_weaker : (outcome : Outcome) (P Q : Match → Type 0) → ((m : Match) → P m → Q m) → IfMatched outcome P → IfMatched outcome Q
matched_weaker (outcomes.Matched m) P Q f is = f m is
matched_weaker outcomes.NoMatch P Q f is = tt
matched_weaker outcomes.OutOfSteps P Q f is = tt

counted_runs : (limit old mid new searched tried most : ℕ) → old ≤ limit → mid ≤ old → new ≤ mid - tried →
    min (((limit - old) + searched) + min old tried) most ≤ (limit - new) + searched
counted_runs limit old mid new searched tried most within looked ran = omega (arith, within, looked, ran)

counted_tables : (limit remaining old new tried most : ℕ) → min (old + tried) most ≤ new →
    min (((limit - remaining) + old) + min remaining tried) most ≤ (limit - remaining) + new
counted_tables limit remaining old new tried most ran = omega (arith, ran)

counted_both : (limit old old' new tried remaining mid most : ℕ) → old ≤ limit → old' ≤ old → remaining ≤ mid → min (mid + tried) most ≤ new →
    min (((limit - old) + remaining) + min old tried) most ≤ (limit - old') + new
counted_both limit old old' new tried remaining mid most within less more ran = omega (arith, within, less, more, ran)

-- a search that first looks for a byte that each match contains, and then backtracks
pub runs_counted : (old mid new : MatcherMatches) (m : Match) → old.remaining ≤ old.limit → IsSameIteration old mid → IsSameIteration mid new →
    iterated_from mid ≡ iterated_from old → Spends old mid → mid.searched ≡ old.searched → new.searched ≡ mid.searched →
    steps_remaining new ≤ steps_remaining mid - (captures_cost (iterated_matcher mid).code + positions_tried (iterated_text mid) (iterated_from mid) (Some m)) → HasCounted old new m
runs_counted old mid new m within same same' stays looked searched searched' ran =
    let tried = captures_cost (iterated_matcher old).code + positions_tried (iterated_text old) (iterated_from old) (Some m) in
    let groups : captures_cost (iterated_matcher mid).code ≡ captures_cost (iterated_matcher old).code = ap (λ (k : Matcher). captures_cost k.code) same.matcher in
    let sum = counted_runs old.limit old.remaining mid.remaining new.remaining old.searched tried (2 ^ 64 - 1) within looked.remaining (omega (arith, ran, stays, groups)) in
    omega (arith, sum, same.limit, same'.limit, searched, searched')

-- one in tables
pub tables_counted : (old new : MatcherMatches) (m : Match) → IsSameIteration old new → new.remaining ≡ old.remaining →
    min (old.searched + (captures_cost (iterated_matcher old).code + positions_tried (iterated_text old) (iterated_from old) (Some m))) (2 ^ 64 - 1) ≤ new.searched →
    HasCounted old new m
tables_counted old new m same remaining ran =
    let tried = captures_cost (iterated_matcher old).code + positions_tried (iterated_text old) (iterated_from old) (Some m) in
    let sum = counted_tables old.limit old.remaining old.searched new.searched tried (2 ^ 64 - 1) ran in
    omega (arith, sum, same.limit, remaining)

-- one for which tables are made
pub made_counted : (old mid new : MatcherMatches) (m : Match) → old.remaining ≤ old.limit → new.limit ≡ old.limit →
    iterated_matcher mid ≡ iterated_matcher old → iterated_text mid ≡ iterated_text old → iterated_from mid ≡ iterated_from old →
    new.remaining ≤ old.remaining → old.searched ≤ mid.searched →
    min (mid.searched + (captures_cost (iterated_matcher mid).code + positions_tried (iterated_text mid) (iterated_from mid) (Some m))) (2 ^ 64 - 1) ≤ new.searched →
    HasCounted old new m
made_counted old mid new m within limit matcher text from less more ran =
    let tried = captures_cost (iterated_matcher old).code + positions_tried (iterated_text old) (iterated_from old) (Some m) in
    let groups : captures_cost (iterated_matcher mid).code ≡ captures_cost (iterated_matcher old).code = ap (λ (k : Matcher). captures_cost k.code) matcher in
    let sum = counted_both old.limit old.remaining new.remaining new.searched tried old.searched mid.searched (2 ^ 64 - 1) within less more
    (omega (arith, ran, groups, from)) in
    omega (arith, sum, limit)

-- What a search in tables counts.
pub tables_tried : (m : Matcher) (text : List ℕ) (from taken : ℕ) (s : TextSearch) → IsKept m text from taken s → (found : Option Match) (steps before after : ℕ) →
    IfSome found (λ x. captures_cost (searched_code s) + positions_tried (searched_text s) from (Some x) ≤ steps) → after ≡ min (before + steps) (2 ^ 64 - 1) →
    IfMatched (outcome_if found) (λ x. min (before + (captures_cost m.code + positions_tried text from (Some x))) (2 ^ 64 - 1) ≤ after)
tables_tried m text from taken s kept None steps before after charged is = tt
tables_tried m text from taken s kept (Some x) steps before after charged is = omega (arith, charged, is, kept.captures)
