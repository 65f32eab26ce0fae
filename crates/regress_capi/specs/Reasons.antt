-- The numbers of the reasons why searches are not linear.
use Rattle.std.specs.Prelude.{ℕ, Option, None, Some}
use Rattle.regress_match.specs.declared.nonlinear.Nonlinear.{Nonlinear}
use Rattle.regress_match.specs.declared.nonlinear.Nonlinear.TheVariants.{BackReference, CapturingLookaround, TooManyInstructions}

-- the number of a reason; 0 if there is none
abbrev pub reason_number : Option Nonlinear → ℕ
reason_number None = 0
reason_number (Some BackReference) = 1
reason_number (Some CapturingLookaround) = 2
reason_number (Some TooManyInstructions) = 3
