-- The input of a search with a pattern.
use Rattle.std.specs.Prelude.{◌≡◌, ℕ, ◌-◌, List, length}
use Rattle.std.proofs.Props.{props}
use Rattle.regress_leaves.specs.Subject.{subject}
use Rattle.regress_unicode.specs.declared.Tables.{Tables}
use Rattle.regress_code.specs.contracts.code.Code as code
use Rattle.regress_code.specs.declared.code.Code.{Code}
use Rattle.regress_backtrack.specs.declared.input.Input.{Input}
use Rattle.regress_code.specs.Code.{code_routines, setting_with}
use Rattle.regress_backtrack.specs.Next.{IsInput, IsInput-prop}

-- The input is for the pattern of a program.
pub record IsFor (c : Code) (tables : Tables) (text : List ℕ) (input : Input) : Type 0 where
  pub is : IsInput input
  pub same_text : input.text.now ≡ text
  pub setting : (subject input.rules text).setting ≡ setting_with c tables
  pub code : input.code.now ≡ c
  pub index : input.index ≡ length (code_routines c) - 1

-- The property has at most one proof.
pub IsFor-prop : (c : Code) (tables : Tables) (text : List ℕ) (input : Input) → IsProp (IsFor c tables text input)
IsFor-prop c tables text input = hlevel (props, IsInput-prop, code.the_row.coded)
