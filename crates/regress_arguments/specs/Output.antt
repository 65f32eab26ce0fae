-- The output of a program.
use Rattle.std.specs.Prelude.{ℕ, List, Option}
use Rattle.std.specs.Io.KnownBytes.{Appends}

-- A writer has accepted bytes that have this property. If its contents are known, these bytes were appended to them.
abbrev pub Took : Option (List ℕ) → Option (List ℕ) → (List ℕ → Type 0) → Type 0
Took old new P = (bytes : List ℕ) × P bytes × Appends old new bytes
