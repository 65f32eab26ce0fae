-- A search is out of steps only if its pattern is costly.
use Rattle.std.proofs.Common.{◌≡◌, ℕ, List, None, inl, inr, refl}
use Rattle.std.specs.Prelude.{Result, Ok, Err, IfErr}
use Rattle.regress.specs.Costs.{AllCostLimit, CostsLimit, factor_in}
use Rattle.regress.specs.declared.failure.SearchError.{SearchError}
use Rattle.regress.specs.declared.failure.SearchError.TheVariants as errors
use Rattle.regress.specs.declared.pattern.Regex.{Regex}
use Rattle.regex_lines.specs.Ending.{IsCostly, IsSearchError, IsInputFailure, IsSearchFailure, search_failure}

module _ (r : Regex) (text : List ℕ) where
  -- a search for all matches
  pub costly_error : (error : SearchError) → (error ≡ errors.OutOfSteps → factor_in r text ≡ None) → (error ≡ errors.OutOfSteps → AllCostLimit r text 0) →
      IsSearchError (IsCostly r) error
  costly_error errors.Memory linear costs = tt
  costly_error errors.OutOfSteps linear costs = record { linear = linear refl; text = text; costs = inr (costs refl) }
  costly_error errors.TooMuchMemory linear costs = tt

  pub costly_all : {X : Type 0} (result : Result X SearchError) → IfErr result (λ error. error ≡ errors.OutOfSteps → factor_in r text ≡ None) →
      IfErr result (λ error. error ≡ errors.OutOfSteps → AllCostLimit r text 0) → IfErr result (IsSearchError (IsCostly r))
  costly_all (Ok x) linear costs = tt
  costly_all (Err error) linear costs = costly_error error linear costs

  -- a search for one match
  pub costly_one : {X : Type 0} (result : Result X SearchError) → IfErr result (λ error. error ≡ errors.OutOfSteps → factor_in r text ≡ None) →
      IfErr result (λ error. error ≡ errors.OutOfSteps → CostsLimit r text 0) → IfErr result (IsSearchError (IsCostly r))
  costly_one (Ok x) linear costs = tt
  costly_one (Err errors.Memory) linear costs = tt
  costly_one (Err errors.OutOfSteps) linear costs = record { linear = linear refl; text = text; costs = inl (costs refl) }
  costly_one (Err errors.TooMuchMemory) linear costs = tt

pub searched : (costly : Type 0) (error : SearchError) → IsSearchError costly error → IsInputFailure costly (search_failure error)
searched costly errors.Memory h = tt
searched costly errors.OutOfSteps h = h
searched costly errors.TooMuchMemory h = tt

pub searched_failure : (costly : Type 0) (error : SearchError) → IsSearchError costly error → IsSearchFailure costly (search_failure error)
searched_failure costly errors.Memory h = tt
searched_failure costly errors.OutOfSteps h = h
searched_failure costly errors.TooMuchMemory h = tt
