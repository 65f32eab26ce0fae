-- The search of `explain` is out of steps only if its pattern is costly, and too large only if that is.
use Rattle.std.proofs.Common.{◌≡◌, ℕ, List, None, chars, inr, refl}
use Rattle.regress.specs.Costs.{AllCostLimit, factor_in}
use Rattle.regress.specs.declared.failure.SearchError.{SearchError}
use Rattle.regress.specs.declared.failure.SearchError.TheVariants as errors
use Rattle.regress.specs.declared.pattern.Regex.{Regex}
use Rattle.regress_front.specs.declared.parse.Dialect.{Dialect}
use Rattle.regress_tree.specs.Steps.{Setting}
use Rattle.regex_lines.specs.Ending.{IsOwnIn, search_failure}
use Rattle.regex_command.specs.Patterns.{IsAcceptedPattern, MayFailToFind}
use Rattle.regex_command.specs.Printed.{IsRejected}
use Rattle.regex_lines.specs.declared.failure.Failure.{Failure}
use Rattle.regex_lines.specs.declared.failure.Failure.TheVariants.{Argument, Memory, Output, Closed, Syntax, TooLarge, OutOfSteps, Unreadable, Incomplete, PatternNotUtf8, TooLong}

module _ (r : Regex) (text : List ℕ) where
  -- a search of `explain`
  pub costly_find : (dialect : Dialect) (setting : Setting) (source : List ℕ) → IsOwnIn dialect setting source r → (error : SearchError) →
      (error ≡ errors.OutOfSteps → factor_in r text ≡ None) → (error ≡ errors.OutOfSteps → AllCostLimit r text 0) →
      MayFailToFind dialect setting source (search_failure error)
  costly_find dialect setting source own errors.Memory linear costs = tt
  costly_find dialect setting source own errors.OutOfSteps linear costs =
      (r, own, record { linear = linear refl; text = text; costs = inr (costs refl) })
  costly_find dialect setting source own errors.TooMuchMemory linear costs = tt

-- an accepted pattern
pub found_large : (dialect : Dialect) (setting : Setting) (source : List ℕ) → IsAcceptedPattern dialect setting (chars source) → (failure : Failure) →
    IsRejected dialect setting source failure → MayFailToFind dialect setting source failure
found_large dialect setting source accepted Argument h = absurd h
found_large dialect setting source accepted Memory h = tt
found_large dialect setting source accepted Output h = absurd h
found_large dialect setting source accepted Closed h = absurd h
found_large dialect setting source accepted (Syntax pattern message position) h = absurd (h accepted.0 accepted.1)
found_large dialect setting source accepted TooLarge h = h
found_large dialect setting source accepted OutOfSteps h = absurd h
found_large dialect setting source accepted (Unreadable unread) h = absurd h
found_large dialect setting source accepted Incomplete h = absurd h
found_large dialect setting source accepted (PatternNotUtf8 name offset) h = absurd h
found_large dialect setting source accepted (TooLong name) h = absurd h
