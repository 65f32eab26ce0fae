-- The results of calls that search a text.
use Rattle.std.specs.Prelude.{◌≡◌, ℕ, List}
use Rattle.regress.specs.declared.failure.SearchError.{SearchError}
use Rattle.regress.specs.declared.failure.SearchError.TheVariants.{Memory, OutOfSteps, TooMuchMemory}
use Rattle.regress_capi.specs.Results.{Gives, IsTooSmall}

-- The status, `needed`, and the buffer before and after. `Asked` states that the arguments are valid, `P` what is
-- written, `Missing` that there is no match, `Costly` that the search may be out of steps, and `Large` that its tables take
-- more memory than they may.
pub data SearchResult (Asked : Type 0) (P : List ℕ → Type 0) (Missing Costly Large : Type 0) (old : List ℕ) :
    (status needed : ℕ) (new : List ℕ) → Type 0 where
  -- the whole result is written
  written : {needed : ℕ} {new : List ℕ} → Asked → Gives P needed old new → SearchResult Asked P Missing Costly Large old 0 needed new
  -- the text has no match
  no_match : Asked → Missing → SearchResult Asked P Missing Costly Large old 1 0 old
  -- an allocation failed
  out_of_memory : Asked → SearchResult Asked P Missing Costly Large old 2 0 old
  -- the buffer is too small
  little : {needed : ℕ} → Asked → IsTooSmall P needed old → SearchResult Asked P Missing Costly Large old 3 needed old
  -- the arguments are invalid
  bad : (Asked → ⊥) → SearchResult Asked P Missing Costly Large old 4 0 old
  -- the search takes more steps than allowed
  out_of_steps : Asked → Costly → SearchResult Asked P Missing Costly Large old 7 0 old
  -- the search needs more memory than allowed
  too_much_memory : Asked → Large → SearchResult Asked P Missing Costly Large old 8 0 old

-- The status of a call that asks whether there is a match.
pub data TestResult (Asked Present Missing Costly Large : Type 0) : (status : ℕ) → Type 0 where
  found : Asked → Present → TestResult Asked Present Missing Costly Large 0
  not_found : Asked → Missing → TestResult Asked Present Missing Costly Large 1
  too_little_memory : Asked → TestResult Asked Present Missing Costly Large 2
  no_text : (Asked → ⊥) → TestResult Asked Present Missing Costly Large 4
  too_many_steps : Asked → Costly → TestResult Asked Present Missing Costly Large 7
  too_large_tables : Asked → Large → TestResult Asked Present Missing Costly Large 8

-- the status of an error of a search
abbrev pub status_of : SearchError → ℕ
status_of Memory = 2
status_of OutOfSteps = 7
status_of TooMuchMemory = 8

-- a status with nothing written
abbrev pub IsBare : (expected : ℕ) (old : List ℕ) (status needed : ℕ) (new : List ℕ) → Type 0
IsBare expected old status needed new = (status ≡ expected) × (needed ≡ 0) × (new ≡ old)
