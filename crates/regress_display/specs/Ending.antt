-- How showing a pattern fails.
use Rattle.std.specs.Prelude.{◌⊎◌, string_bytes}
use Rattle.regress_parse.specs.declared.fault.PlacedFault.{PlacedFault}
use Rattle.regress_parse.specs.declared.fault.PlacedFault.TheVariants as fault
use Rattle.regress_parse.specs.Settled.{IsSyntaxErrorIn}
use Rattle.regress_display.specs.Request.{IsAcceptedPattern, setting_of_request, Request}
use Rattle.regress_display.specs.declared.error.ShowError.{ShowError}
use Rattle.regress_display.specs.declared.error.ShowError.TheVariants.{Syntax, Memory, Output}

-- an error of the parser as one of showing
abbrev pub error_of : PlacedFault → ShowError
error_of (fault.Syntax kind e position) = Syntax kind e position
error_of (fault.Memory e) = Memory

-- A syntax error is reported only for a rejected pattern, and an output error only for an accepted one.
abbrev pub IsDue : Request → ShowError → Type 0
IsDue request (Syntax kind e position) =
    IsSyntaxErrorIn request.dialect (setting_of_request request) request.pattern kind (string_bytes e.text) position
IsDue request Memory = Unit {0}
IsDue request Output = IsAcceptedPattern request

-- What was written before an error: nothing, or the first of two trees. For an output error it is not specified.
abbrev pub Leaves : (nothing first : Type 0) → ShowError → Type 0
Leaves nothing first (Syntax kind e position) = nothing
Leaves nothing first Memory = nothing ⊎ first
Leaves nothing first Output = Unit {0}
