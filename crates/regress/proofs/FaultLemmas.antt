-- A search that has not the memory that it needs, as an error of `Regex`.
use Rattle.std.proofs.Common.{◌≡◌, ◌∙◌, refl, sym}
use Rattle.std.specs.Prelude.{Result, Ok, Err, IfErr, IsErr, IsErrAnd}
use Rattle.regress_found.specs.declared.fault.MemoryFault.{MemoryFault}
use Rattle.regress_found.specs.declared.fault.MemoryFault.TheVariants as faults
use Rattle.regress_match.specs.Memory.{SearchNeedsMore}
use Rattle.regress.specs.Failures.{search_error_of}
use Rattle.regress.specs.declared.failure.SearchError.{SearchError}
use Rattle.regress.specs.Searched.{IsDue, IsTooCostly, next_from, searched_matcher, searched_text}
use Rattle.regress.specs.declared.search.Matches.{Matches}
use Rattle.regress.specs.declared.failure.SearchError.TheVariants.{OutOfSteps, TooMuchMemory}

never_steps : (fault : MemoryFault) → search_error_of fault ≡ OutOfSteps → ⊥
never_steps faults.Memory is = cc
never_steps faults.TooMuchMemory is = cc

too_much : (fault : MemoryFault) → search_error_of fault ≡ TooMuchMemory → fault ≡ faults.TooMuchMemory
too_much faults.Memory is = let bad : ⊥ = cc in absurd bad
too_much faults.TooMuchMemory is = refl

-- It is not out of steps.
pub no_steps : (P : Type 0) {X : Type 0} (out : Result X SearchError) (fault : MemoryFault) →
    IsErr out × IsErrAnd out (λ error. error ≡ search_error_of fault) → IfErr out (λ error. error ≡ OutOfSteps → P)
no_steps P (Ok x) fault given = tt
no_steps P (Err error) fault given = λ is. absurd (never_steps fault (sym given.1 ∙ is))

-- What holds if it needs too much memory.
pub if_too_much : (P : Type 0) {X : Type 0} (out : Result X SearchError) (fault : MemoryFault) →
    IsErr out × IsErrAnd out (λ error. error ≡ search_error_of fault) → (fault ≡ faults.TooMuchMemory → P) →
    IfErr out (λ error. error ≡ TooMuchMemory → P)
if_too_much P (Ok x) fault given known = tt
if_too_much P (Err error) fault given known = λ is. known (too_much fault (sym given.1 ∙ is))

-- The error of a search for the next match is due.
pub due_next : (m : Matches) (fault : MemoryFault) (error : SearchError) → error ≡ search_error_of fault →
    (fault ≡ faults.TooMuchMemory → SearchNeedsMore (searched_matcher m) (searched_text m) (next_from m)) → IsDue m error
due_next m fault error same known = record {
  steps = λ is. absurd (never_steps fault (sym same ∙ is));
  memory = λ is. known (too_much fault (sym same ∙ is));
}

pub out_of_steps : (m : Matches) → IsTooCostly m → IsDue m OutOfSteps
out_of_steps m costly = record {
  steps = λ _. costly;
  memory = λ is. let bad : ⊥ = cc in absurd bad;
}
