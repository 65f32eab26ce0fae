-- What is said of the size of a pattern.
use Rattle.std.specs.Prelude.{◌≡◌, ◌≢◌, ℕ, List, [], ◌∷◌, chars, codes, Option, Some, None}
use Rattle.regress.specs.Costs.{nonlinear_of}
use Rattle.regress.specs.Failures.{IsTooLarge}
use Rattle.regress.specs.declared.pattern.Regex.{Regex}
use Rattle.regress_front.specs.declared.parse.Dialect.{Dialect}
use Rattle.regress_match.specs.declared.nonlinear.Nonlinear.TheVariants.{BackReference, CapturingLookaround, TooManyInstructions}
use Rattle.regress_front.specs.declared.parse.Dialect.{Dialect}
use Rattle.regress_match.specs.declared.nonlinear.Nonlinear.{Nonlinear}
use Rattle.regress_spans.specs.Remarks.{Said}
use Rattle.regress_tree.specs.Steps.{Setting}
use Rattle.regex_lines.specs.Ending.{IsOwnIn, options_in}
use Rattle.regex_command.specs.declared.size.SizeWarning.TheVariants.{ManyInstructions, TooLarge}
use Rattle.regex_command.specs.declared.size.SizeWarning.{SizeWarning}

module _ (dialect : Dialect) where
  -- P holds of the regular expression that the program compiles from a pattern.
  abbrev pub HasOwn : Setting → (text : List ℕ) → (P : Regex → Type 0) → Type 0
  HasOwn setting text P = (r : Regex) × IsOwnIn dialect setting text r × P r

  -- The pattern has this warning: the number of instructions, and nothing else, is why searches are not linear; or it is too
  -- large to be compiled. It has none if neither holds.
  abbrev pub IsSizeWarning : Setting → (text : List ℕ) → Option SizeWarning → Type 0
  IsSizeWarning setting text None = HasOwn setting text (λ r. nonlinear_of r ≢ Some TooManyInstructions)
  IsSizeWarning setting text (Some ManyInstructions) = HasOwn setting text (λ r. nonlinear_of r ≡ Some TooManyInstructions)
  IsSizeWarning setting text (Some TooLarge) = IsTooLarge setting (chars text) (options_in dialect)

-- what is warned of if searches are not linear for this reason
abbrev pub instructions_warning : Option Nonlinear → Option SizeWarning
instructions_warning None = None
instructions_warning (Some BackReference) = None
instructions_warning (Some CapturingLookaround) = None
instructions_warning (Some TooManyInstructions) = Some ManyInstructions

abbrev pub name_of : SizeWarning → List ℕ
name_of ManyInstructions = codes "too-many-instructions"
name_of TooLarge = codes "too-large"

abbrev pub text_of : SizeWarning → List ℕ
text_of ManyInstructions = codes "with more than 4,000 instructions a search may take more than linear time, and stop at a step limit: (?:ab?){2000} has 6,001"
text_of TooLarge = codes "the pattern is too large for a search: more than 250,000 instructions are stored, or there are 2^64 with all iterations, as in (?:(?:ab){9999999999}){9999999999}, or it may have more than 1,000,000 nodes"

-- what is said of the whole pattern, which has this number of code points
abbrev pub said_of : (length : ℕ) → SizeWarning → Said
said_of length warning = (record { start = 0; end = length }, name_of warning, text_of warning)

abbrev pub said_of_size : (length : ℕ) → Option SizeWarning → List Said
said_of_size length None = []
said_of_size length (Some warning) = said_of length warning ∷ []
