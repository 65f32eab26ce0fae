-- Strings of a document that a pattern does not match.
use Rattle.std.specs.Prelude.{◌≡◌, ℕ, true, List, Some, All, string_bytes}
use Rattle.std.specs.Arc.{arc_value}
use Rattle.serde_json.specs.Data.{Data, string}
use Rattle.serde_json.specs.Find.{pointer}
use Rattle.serde_json.specs.View.{view}
use Rattle.regress_front.specs.Meaning.{setting_of}
use Rattle.regress_front.specs.declared.parse.Dialect.TheVariants.{Ecma}
use Rattle.regress_front.specs.declared.types.Flags.{Flags}
use Rattle.regress_front.specs.declared.unicode.Tables.{Tables}
use Rattle.regress.specs.Compiled.{IsCompiledIn, outcomes_of}
use Rattle.regress.specs.Searched.{MatchesSomewhere}
use Rattle.regress.specs.Letters.{no_flags}
use Rattle.regress.specs.declared.pattern.Regex.{Regex}
use Rattle.example_schema.specs.declared.validator.Validator.{Validator}
use Rattle.example_schema.specs.declared.validator.Violation.{Violation}

-- the flag u only
abbrev pub unicode_flags : Flags
unicode_flags = record no_flags { unicode = true }

-- The document has a string at the pointer, and the pattern, compiled in the dialect Ecma with the flag u, matches nowhere in it.
pub record IsViolation (tables : Tables) (document : Data) (v : Violation) : Type 0 where
  pub text : List ℕ
  pub found : pointer (string_bytes v.pointer) document ≡ Some (string text)
  pub regex : Regex
  pub compiled : IsCompiledIn Ecma (setting_of unicode_flags tables) (string_bytes v.pattern) regex
  pub unmatched : ¬ MatchesSomewhere text (outcomes_of regex text)

abbrev pub AreViolations : Validator → List Violation → Type 0
AreViolations v = All (IsViolation (arc_value v.tables.now) (view v.document.now))

-- The new list has violations only, if the old one has.
abbrev pub Keeps : Validator → List Violation → List Violation → Type 0
Keeps v old new = AreViolations v old → AreViolations v new
