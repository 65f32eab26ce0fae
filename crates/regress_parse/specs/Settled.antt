-- What syntax errors state of a source: which of them no change after their position can mend, and where names in conflict
-- are reported.
use Rattle.std.specs.Prelude.{◌≡◌, ℕ, ◌+◌, ◌≤◌, false, List, ◌++◌, take, drop, length, Some, string_bytes}
use Rattle.regress_base.specs.Limits.{max_nesting_depth}
use Rattle.regress_tree.specs.Steps.{Setting}
use Rattle.regress_lexer.specs.declared.dialect.Dialect.{Dialect}
use Rattle.regress_lexer.specs.declared.dialect.Dialect.TheVariants.{Regress}
use Rattle.regress_lexer.specs.declared.fault.FaultKind.{FaultKind}
use Rattle.regress_lexer.specs.declared.fault.FaultKind.TheVariants.{DuplicateName}
use Rattle.regress_lexer.specs.Source.{Source, char, is_at}
use Rattle.regress_syntax.specs.Paths.{are_tokens_apart}
use Rattle.regress_syntax.specs.Scan.{plain, tokens, deepest}
use Rattle.regress_syntax.specs.FirstErrors.{Flaw, kind_of, remaining_at, IsFirstDuplicate}
use Rattle.regress_parse.specs.declared.fault.PlacedFault.{PlacedFault}
use Rattle.regress_parse.specs.declared.fault.PlacedFault.TheVariants.{Syntax, Memory}
use Rattle.regress_parse.specs.Rejected.{NoneIsAcceptedIn, IsTrueIn, MayExceed}
use Rattle.regress_parse.specs.Fault.{text_of}

-- If two groups of the source conflict, and it is not nested too deeply, then the syntax error is of that kind, and its
-- position is that of the first name that conflicts with one before it.
abbrev pub IsAtFirstDuplicate : Setting → Source → FaultKind → (position : ℕ) → Type 0
IsAtFirstDuplicate setting t kind position =
    let marks = tokens setting.flags.unicode_sets setting.table plain t in
    are_tokens_apart marks ≡ false → deepest 1 marks ≤ max_nesting_depth →
    (kind ≡ DuplicateName) × IsFirstDuplicate setting.flags.unicode_sets setting.table t position

module _ (dialect : Dialect) where
  -- No source with this prefix is accepted.
  abbrev pub NoneStartsWithIn : Setting → Source → Type 0
  NoneStartsWithIn setting front = (after : Source) → NoneIsAcceptedIn dialect setting (front ++ after)

  -- If the source has an unmatched closing parenthesis, or exceeds the nesting depth, and the syntax error is of that
  -- kind, then its position is that of the first such code point. Unless that is a `[`, no source is accepted that starts
  -- with the code points up to and including it.
  abbrev pub IsFinalIn : Setting → Source → FaultKind → (position : ℕ) → Type 0
  IsFinalIn setting t kind position =
      (flaw : Flaw) (left : ℕ) → kind ≡ kind_of flaw → remaining_at flaw setting.flags.unicode_sets plain 1 t ≡ Some left →
      (position + left ≡ length t) × (is_at (char "[") (drop position t) ≡ false → NoneStartsWithIn setting (take (position + 1) t))

  -- What is known of a syntax error that is reported of the source, by its kind and its position.
  pub record IsReportedIn (setting : Setting) (source : Source) (kind : FaultKind) (position : ℕ) : Type 0 where
    pub reported : IsTrueIn dialect setting source kind
    pub limits : MayExceed source kind
    pub within : position ≤ length source
    pub settled : IsFinalIn setting source kind position
    pub duplicate : IsAtFirstDuplicate setting source kind position

  -- A syntax error of a source that has no accepted pattern, with the text of its kind.
  pub record IsSyntaxErrorIn (setting : Setting) (source : Source) (kind : FaultKind) (message : List ℕ) (position : ℕ) : Type 0 where
    pub rejected : NoneIsAcceptedIn dialect setting source
    pub text : message ≡ text_of kind
    pub reported : IsReportedIn setting source kind position

  -- The fault is such a syntax error. Out of memory states nothing.
  abbrev pub IsFaultIn : Setting → Source → PlacedFault → Type 0
  IsFaultIn setting source (Syntax kind e position) = IsSyntaxErrorIn setting source kind (string_bytes e.text) position
  IsFaultIn setting source (Memory e) = Unit {0}

-- ---- the same in the dialect of `try_parse`

abbrev pub IsFinal : Setting → Source → FaultKind → (position : ℕ) → Type 0
IsFinal = IsFinalIn Regress

abbrev pub IsReported : Setting → Source → FaultKind → (position : ℕ) → Type 0
IsReported = IsReportedIn Regress

abbrev pub IsSyntaxError : Setting → Source → FaultKind → (message : List ℕ) → (position : ℕ) → Type 0
IsSyntaxError = IsSyntaxErrorIn Regress

abbrev pub IsFaultOf : Setting → Source → PlacedFault → Type 0
IsFaultOf = IsFaultIn Regress
