-- Texts that are kept, where the search fails.
use Rattle.std.proofs.Common.{◌≡◌, ℕ, List, Option, refl, subst, sym}
use Rattle.regress.specs.declared.failure.SearchError.{SearchError}
use Rattle.regress.specs.declared.failure.SearchError.TheVariants.{Memory, OutOfSteps, TooMuchMemory}
use Rattle.regress_capi.specs.ReplacedResults.{ReplacedResult, replaced_out_of_memory, replaced_out_of_steps, replaced_too_much_memory}
use Rattle.regress_capi.specs.SearchResults.{status_of}
use Rattle.regress_capi.specs.declared.replaced_text.ReplacedText.{ReplacedText}

-- a search that fails has the status of its error
pub replaced-fails : {Asked : Type 0} {P : ℕ → List ℕ → Type 0} {Costly Large : Type 0} {old : Option ReplacedText} {status : ℕ}
    (error : SearchError) → Asked → (error ≡ OutOfSteps → Costly) → (error ≡ TooMuchMemory → Large) → status ≡ status_of error →
    ReplacedResult Asked P Costly Large old status old
replaced-fails {Asked} {P} {Costly} {Large} {old} Memory asked late large is =
    subst (λ s. ReplacedResult Asked P Costly Large old s old) (sym is) (replaced_out_of_memory asked)
replaced-fails {Asked} {P} {Costly} {Large} {old} OutOfSteps asked late large is =
    subst (λ s. ReplacedResult Asked P Costly Large old s old) (sym is) (replaced_out_of_steps asked (late refl))
replaced-fails {Asked} {P} {Costly} {Large} {old} TooMuchMemory asked late large is =
    subst (λ s. ReplacedResult Asked P Costly Large old s old) (sym is) (replaced_too_much_memory asked (large refl))
