-- The meaning of the constants of case mappings.
use Rattle.std.specs.Prelude.{ℕ, ℤ}
use Rattle.regress_unicode.specs.FoldEntries.{FoldEntry}

-- an entry of a case mapping, from its start, length, delta and modulo
abbrev pub mapping : ℕ × ℕ × ℤ × ℕ → FoldEntry
mapping r = record { start = r.0; length = r.1; delta = r.2; modulo = r.3 }
