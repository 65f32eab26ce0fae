-- Which patterns ECMA-262 accepts with letters for flags (22.2.3.3 RegExpInitialize), under the table of all of Unicode.
use Rattle.std.specs.Prelude.{◌≡◌, ◌⊎◌, ◌<◌, ℕ, false, List}
use Rattle.regress_front.specs.Limits.{max_capture_groups, max_loops, max_nesting_depth}
use Rattle.regress_front.specs.Syntax.{Pattern, counts, nesting}
use Rattle.regress_ecma.specs.PatternNodes.{Disjunction}
use Rattle.regress_ecma.specs.Patterns.{IsDerivedPattern, has_early_error}
use Rattle.regress_ucd.specs.UnicodeTable.{unicode_table}
use Rattle.regress.specs.Letters.{AreFlags, flags_of}
use Rattle.regress.specs.declared.failure.Error.{Error}
use Rattle.regress.specs.declared.failure.Error.TheVariants.{Flags, Syntax, TooLarge, Memory}

module _ (letters source : List ℕ) where
  -- The letters are flags, with which the pattern derives this parse node (22.2.3.4 ParsePattern).
  pub record IsParsedAs (d : Disjunction) : Type 0 where
    pub flags : AreFlags letters
    pub derived : IsDerivedPattern unicode_table (flags_of letters).unicode (flags_of letters).unicode_sets d source

  -- It is accepted: the parse node also has no early error.
  pub record IsValidAs (d : Disjunction) : Type 0 where
    pub parsed : IsParsedAs d
    pub correct : has_early_error d ≡ false

-- The syntax tree has more capture groups, loops or levels of nesting than the limits allow.
abbrev pub IsPastLimits : Pattern → Type 0
IsPastLimits p =
    (max_capture_groups < (counts p).groups) ⊎ (max_loops < (counts p).loops) ⊎ (max_nesting_depth < nesting p)

-- The error says that the flags or the pattern are rejected.
abbrev pub IsRejection : Error → Type 0
IsRejection (Syntax kind text position message) = Unit {0}
IsRejection (Flags e) = Unit {0}
IsRejection TooLarge = ⊥
IsRejection Memory = ⊥
