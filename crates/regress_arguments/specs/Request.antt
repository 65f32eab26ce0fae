-- The request that a program's arguments make.
use Rattle.std.specs.Prelude.{ℕ, List, [], ◌∷◌, Option, Some, None, option_map, chars, String, string_bytes}
use Rattle.std.specs.declared.alloc.Global.{Global}
use Rattle.regress_base.specs.declared.types.Flags.{Flags}
use Rattle.regress_arguments.specs.Letters.{no_flags, with_letters}

-- a pattern, as a list of code points, and its flags
abbrev pub Request : Type 0
Request = List ℕ × Flags

-- `PATTERN [FLAGS]`, each letter at most once
abbrev pub request_of : List (String Global) → Option Request
request_of [] = None
request_of (pattern ∷ []) = Some (chars (string_bytes pattern), no_flags)
request_of (pattern ∷ (letters ∷ [])) =
    option_map (λ flags. (chars (string_bytes pattern), flags)) (with_letters no_flags (string_bytes letters))
request_of (pattern ∷ (letters ∷ (more ∷ others))) = None
