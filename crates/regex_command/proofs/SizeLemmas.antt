-- What is warned of in the size of a pattern.
use Rattle.std.specs.Prelude.{◌≡◌, ℕ, List, Option, Some, None}
use Rattle.std.proofs.Common.{◌∙◌, sym}
use Rattle.regress.specs.Costs.{nonlinear_of}
use Rattle.regress.specs.declared.pattern.Regex.{Regex}
use Rattle.regress_front.specs.declared.parse.Dialect.{Dialect}
use Rattle.regress_match.specs.declared.nonlinear.Nonlinear.TheVariants.{BackReference, CapturingLookaround, TooManyInstructions}
use Rattle.regress_match.specs.declared.nonlinear.Nonlinear.{Nonlinear}
use Rattle.regress_tree.specs.Steps.{Setting}
use Rattle.regex_lines.specs.Ending.{IsOwnIn}
use Rattle.regex_command.specs.Size.{IsSizeWarning, instructions_warning}

-- The warning is that of the compiled pattern.
pub own_warning : (dialect : Dialect) (setting : Setting) (text : List ℕ) (r : Regex) → IsOwnIn dialect setting text r →
    (reason : Option Nonlinear) → reason ≡ nonlinear_of r → IsSizeWarning dialect setting text (instructions_warning reason)
own_warning dialect setting text r own None is = (r, own, λ many. let bad : ⊥ = cc (is ∙ many) in bad)
own_warning dialect setting text r own (Some BackReference) is = (r, own, λ many. let bad : ⊥ = cc (is ∙ many) in bad)
own_warning dialect setting text r own (Some CapturingLookaround) is = (r, own, λ many. let bad : ⊥ = cc (is ∙ many) in bad)
own_warning dialect setting text r own (Some TooManyInstructions) is = (r, own, sym is)
