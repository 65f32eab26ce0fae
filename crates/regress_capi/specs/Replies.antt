-- The numbers that a call for a pattern reports.
use Rattle.std.specs.Prelude.{ℕ, Bool, if◌then◌else◌}
use Rattle.regress_lexer.specs.FaultKinds.{number_of}
use Rattle.regress_parse.specs.declared.fault.PlacedFault.{PlacedFault}
use Rattle.regress_parse.specs.declared.fault.PlacedFault.TheVariants.{Syntax, Memory}
use Rattle.regress_capi.specs.declared.reply.Reply.{Reply}

-- a status without numbers
abbrev pub bare : (status : ℕ) → Reply
bare status = record { status = status; needed = 0; kind = 0; position = 0 }

-- the number of items, by whether they fit in the buffer
abbrev pub of_items : (fits : Bool) → (needed : ℕ) → Reply
of_items fits needed = record { status = if fits then 0 else 3; needed = needed; kind = 0; position = 0 }

-- the number of the kind, and the position, of a syntax error
abbrev pub of_error : (status kind position : ℕ) → Reply
of_error status kind position = record { status = status; needed = 0; kind = kind; position = position }

-- a syntax error with the length of its text, by whether that fits in the buffer
abbrev pub of_text : (fits : Bool) → (needed kind position : ℕ) → Reply
of_text fits needed kind position = record { status = if fits then 5 else 3; needed = needed; kind = kind; position = position }

-- an error of the parser
abbrev pub of_fault : PlacedFault → Reply
of_fault (Syntax kind error position) = of_error 5 (number_of kind) position
of_fault (Memory e) = bare 2
