-- How a run of the program ends.
use Rattle.std.specs.Prelude.{◌≡◌, ℕ, Option, Some, None, Result, Ok, Err}
use Rattle.regress_front.specs.declared.parse.ParseFault.{ParseFault}
use Rattle.regress_front.specs.declared.parse.ParseFault.TheVariants as fault
use Rattle.regex_front.specs.declared.failure.Failure.{Failure}
use Rattle.regex_front.specs.declared.failure.Failure.TheVariants.{Syntax, Usage, Memory, Output}
use Rattle.regress_arguments.specs.Request.{Request}
use Rattle.regex_front.specs.Printed.{IsAcceptedPattern, NoneIsAccepted}

-- the exit status of a failure
abbrev pub status_of : Failure → ℕ
status_of (Syntax e) = 1
status_of Usage = 2
status_of Memory = 3
status_of Output = 4

-- an error of the parser as a failure
abbrev pub failure_of : ParseFault → Failure
failure_of (fault.Syntax e) = Syntax e
failure_of (fault.Memory e) = Memory

-- A syntax error is reported only for a rejected pattern, and an output error only for an accepted one.
abbrev pub IsDue : Request → Failure → Type 0
IsDue request (Syntax e) = NoneIsAccepted request
IsDue request Usage = ⊥
IsDue request Memory = Unit {0}
IsDue request Output = IsAcceptedPattern request

-- The result of a run: wrong usage, success for an accepted pattern, or a failure that is due.
abbrev pub Ends : Option Request → Result (Unit {0}) Failure → Type 0
Ends None r = r ≡ Err Usage
Ends (Some request) (Ok done) = IsAcceptedPattern request
Ends (Some request) (Err failure) = IsDue request failure
