-- Flags by their letters.
use Rattle.std.specs.Prelude.{ℕ, true, List, [], ◌∷◌, Option, Some, None, option_and_then, if◌then◌else◌, ◌==◌}
use Rattle.regress_base.specs.declared.types.Flags.{Flags}
pub use Rattle.regress_base.specs.NoFlags.{no_flags}

-- the flags with the flag of one more letter (`i`, `m`, `s`, `u` or `v`), which was not set before
abbrev pub with_letter : Flags → ℕ → Option Flags
with_letter flags c =
    if c == 105 then (if flags.icase then None else Some (record flags { icase = true }))
    else if c == 109 then (if flags.multiline then None else Some (record flags { multiline = true }))
    else if c == 115 then (if flags.dot_all then None else Some (record flags { dot_all = true }))
    else if c == 117 then (if flags.unicode then None else Some (record flags { unicode = true }))
    else if c == 118 then (if flags.unicode_sets then None else Some (record flags { unicode_sets = true }))
    else None

-- the flags with those of all letters
abbrev pub with_letters : Flags → List ℕ → Option Flags
with_letters flags [] = Some flags
with_letters flags (c ∷ cs) = option_and_then (λ more. with_letters more cs) (with_letter flags c)
