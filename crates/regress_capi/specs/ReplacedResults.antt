-- The results of the calls that keep a text in which matches were replaced.
use Rattle.std.specs.Prelude.{ℕ, List, Option, Some, string_bytes}
use Rattle.regress_capi.specs.declared.replaced_text.ReplacedText.{ReplacedText}

-- the text
abbrev pub bytes_of : ReplacedText → List ℕ
bytes_of r = string_bytes r.text

-- how many matches were replaced in it
abbrev pub count_of : ReplacedText → ℕ
count_of r = r.count

-- The status of a call that replaces matches, and the handle before and after. `Asked` states that the arguments are valid, `P`
-- how many matches are replaced in which text, `Costly` that the search may be out of steps, and `Large` that its tables take more
-- memory than they may.
pub data ReplacedResult (Asked : Type 0) (P : (count : ℕ) → List ℕ → Type 0) (Costly Large : Type 0) (old : Option ReplacedText) :
    (status : ℕ) (new : Option ReplacedText) → Type 0 where
  -- the handle is that of the text
  replaced : {r : ReplacedText} → Asked → P (count_of r) (bytes_of r) → ReplacedResult Asked P Costly Large old 0 (Some r)
  -- an allocation failed
  replaced_out_of_memory : Asked → ReplacedResult Asked P Costly Large old 2 old
  -- the arguments are invalid
  replaced_bad : (Asked → ⊥) → ReplacedResult Asked P Costly Large old 4 old
  -- the search takes more steps than allowed
  replaced_out_of_steps : Asked → Costly → ReplacedResult Asked P Costly Large old 7 old
  -- the search needs more memory than allowed
  replaced_too_much_memory : Asked → Large → ReplacedResult Asked P Costly Large old 8 old
