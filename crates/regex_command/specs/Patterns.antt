-- What `parse`, `draw`, `lint` and `explain` write.
use Rattle.std.specs.Prelude.{◌≡◌, ◌⊎◌, ⊤, ℕ, Bool, true, false, List, [], ◌==◌, ◌++◌, chars, codes, length, map, Option, Some, None}
use Rattle.std.specs.Fmt.{decimal}
use Rattle.std.specs.List.{FoldsTo}
use Rattle.std.specs.declared.ops.Range.{Range}
use Rattle.regex_options.specs.Request.{Form, lines, page}
use Rattle.regress.specs.Compiled.{IsCompiledIn, outcomes_of}
use Rattle.regress.specs.Failures.{IsTooLarge}
use Rattle.regress.specs.declared.pattern.Regex.{Regex}
use Rattle.regress_differences.specs.Kinds as differences
use Rattle.regress_display.specs.Request as display
use Rattle.regress_display.specs.Fault.{IsFaultOutput}
use Rattle.regress_display.specs.Request.{Request}
use Rattle.regress_display.specs.Shown.{IsOutput}
use Rattle.regress_display.specs.declared.request.Format.TheVariants.{Text, Json, Svg}
use Rattle.regress_display.specs.declared.request.Format.{Format}
use Rattle.regress_explain.specs.Page.{IsPageOf}
use Rattle.regress_found.specs.Found.{start_of, state_of}
use Rattle.regress_found.specs.Repeated.{AreAllMatches}
use Rattle.regress_found.specs.declared.found.Match.{Match}
use Rattle.regress_parse.specs.Accepted.{IsAcceptedIn}
use Rattle.regress_parse.specs.Rejected.{NoneIsAcceptedIn}
use Rattle.regress_parse.specs.TreeOf.{tree_of}
use Rattle.regress_front.specs.declared.parse.Dialect.{Dialect}
use Rattle.regress_front.specs.declared.parse.Dialect.TheVariants.{Regress, Ecma}
use Rattle.regress_spans.specs.Paired.{spanned_in}
use Rattle.regress_parse.specs.declared.span.Span.{Span}
use Rattle.regress_spans.specs.Remarks.{Said}
use Rattle.regress_syntax.specs.Syntax.{Pattern}
use Rattle.regress_tree.specs.Steps.{Setting}
use Rattle.regress_tree.specs.Tree.{Tree}
use Rattle.regress_warnings.specs.Warned as warnings
use Rattle.regex_lines.specs.Ending.{IsCostlyPatternIn, IsLate, options_in}
use Rattle.regex_lines.specs.declared.failure.Failure.TheVariants.{Argument, Memory, Output, Closed, Syntax, TooLarge, OutOfSteps, Unreadable, Incomplete, PatternNotUtf8, TooLong}
use Rattle.regex_lines.specs.declared.failure.Failure.{Failure}
use Rattle.regex_command.specs.Size.{IsSizeWarning, said_of_size}
use Rattle.regex_command.specs.declared.size.SizeWarning.{SizeWarning}

-- What is written to standard output for a rejected pattern: its syntax error as JSON, and nothing in the other formats.
abbrev pub IsFaultWritten : Format → Request → List ℕ → Type 0
IsFaultWritten Text request bytes = display.NoneIsAccepted request × (bytes ≡ [])
IsFaultWritten Json request bytes = IsFaultOutput request bytes
IsFaultWritten Svg request bytes = display.NoneIsAccepted request × (bytes ≡ [])

-- The tree of an accepted pattern, or what is written for a rejected one.
abbrev pub IsTreeOutput : (accepted : Bool) → Request → List ℕ → Type 0
IsTreeOutput true request bytes = IsOutput request bytes
IsTreeOutput false request bytes = IsFaultWritten request.format request bytes

-- Where a syntax error is written as JSON, nothing is written to standard error.
abbrev pub IsQuietFor : Format → (quiet : Type 0) → Type 0
IsQuietFor Text quiet = ⊤
IsQuietFor Json quiet = quiet
IsQuietFor Svg quiet = ⊤

-- There is something to write for a rejected pattern.
abbrev pub HasFaultOutput : Format → Request → Type 0
HasFaultOutput Text request = ⊥
HasFaultOutput Json request = display.NoneIsAccepted request
HasFaultOutput Svg request = ⊥

-- Memory is short, or what there is to write cannot be written.
abbrev pub IsShowFailure : Request → Failure → Type 0
IsShowFailure request Argument = ⊥
IsShowFailure request Memory = ⊤
IsShowFailure request Output = display.IsAcceptedPattern request ⊎ HasFaultOutput request.format request
IsShowFailure request Closed = ⊥
IsShowFailure request (Syntax pattern text position) = ⊥
IsShowFailure request TooLarge = ⊥
IsShowFailure request OutOfSteps = ⊥
IsShowFailure request (Unreadable unread) = ⊥
IsShowFailure request Incomplete = ⊥
IsShowFailure request (PatternNotUtf8 name offset) = ⊥
IsShowFailure request (TooLong name) = ⊥

-- `1..4: case-closure: ` and a text, for the code points from 1 on before 4
abbrev pub line_of : Said → List ℕ
line_of (span, name, text) = decimal span.start ++ codes ".." ++ decimal span.end ++ codes ": " ++ name ++ codes ": " ++ text ++ codes "\n"

-- one line further, and what shows the position in the pattern
abbrev pub IsListedNext : (before line after : List ℕ) → Type 0
IsListedNext before line after = (shown : List ℕ) × (after ≡ before ++ (line ++ shown))

-- the lines of these remarks, each with what is shown below it
abbrev pub IsListed : List Said → List ℕ → Type 0
IsListed remarks bytes = FoldsTo IsListedNext [] (map line_of remarks) bytes

-- What is said of where a tree whose nodes have these spans differs from ECMA-262. In the dialect `Ecma` that is nothing.
abbrev pub AreDifferencesIn : Dialect → Setting → (source : List ℕ) → Tree → List (Tree × Span) → List Said → Type 0
AreDifferencesIn Regress setting source t nodes found = differences.AreSaid setting source t nodes found
AreDifferencesIn Ecma setting source t nodes found = found ≡ []

-- the bytes that a match spans
abbrev pub range_of : Match → Range ℕ
range_of m = record { start = start_of m; end = (state_of m).position }

-- a text that a page shows, and the ranges that it marks in it
abbrev pub MarkedText : Type 0
MarkedText = List ℕ × List (Range ℕ)

-- A text is given.
abbrev pub HasText : Form → Type 0
HasText lines = ⊥
HasText (page None) = ⊥
HasText (page (Some text)) = ⊤

-- the dialect of a pattern
module _ (dialect : Dialect) where
  -- what is said of the differences of an accepted pattern from ECMA-262
  abbrev pub HasDifferences : Setting → (source : List ℕ) → List Said → Type 0
  HasDifferences setting source found = (p : Pattern) × (accepted : IsAcceptedIn dialect setting source p)
      × AreDifferencesIn dialect setting source (tree_of setting.table p) (spanned_in dialect setting source p accepted.derived) found

  -- what is said of what is warned of in an accepted pattern
  abbrev pub HasWarnings : Setting → (source : List ℕ) → List Said → Type 0
  HasWarnings setting source found = (p : Pattern) × (accepted : IsAcceptedIn dialect setting source p)
      × (found ≡ warnings.all_said setting.flags.unicode_sets source (spanned_in dialect setting source p accepted.derived))

  -- What is written for an accepted pattern: all differences in order, then all warnings in order, and then the warning of its
  -- size. The pattern is clean if there are none.
  pub record IsReport (clean : Bool) (setting : Setting) (text : List ℕ) (bytes : List ℕ) : Type 0 where
    pub found : List Said
    pub warned : List Said
    pub size : Option SizeWarning
    pub differ : HasDifferences setting (chars text) found
    pub warns : HasWarnings setting (chars text) warned
    pub sized : IsSizeWarning dialect setting text size
    pub listed : IsListed (found ++ warned ++ said_of_size (length (chars text)) size) bytes
    pub is_clean : clean ≡ (length (found ++ warned ++ said_of_size (length (chars text)) size) == 0)

  -- A failure that may occur for a report: memory is short, the output cannot be written, or no pattern is accepted.
  abbrev pub MayFailToLint : Setting → (source : List ℕ) → Failure → Type 0
  MayFailToLint setting source Argument = ⊥
  MayFailToLint setting source Memory = ⊤
  MayFailToLint setting source Output = ⊤
  MayFailToLint setting source Closed = ⊤
  MayFailToLint setting source (Syntax pattern text position) = NoneIsAcceptedIn dialect setting source
  MayFailToLint setting source TooLarge = ⊥
  MayFailToLint setting source OutOfSteps = ⊥
  MayFailToLint setting source (Unreadable unread) = ⊥
  MayFailToLint setting source Incomplete = ⊥
  MayFailToLint setting source (PatternNotUtf8 name offset) = ⊥
  MayFailToLint setting source (TooLong name) = ⊥

  -- Some pattern is accepted.
  abbrev pub IsAcceptedPattern : Setting → (source : List ℕ) → Type 0
  IsAcceptedPattern setting source = (p : Pattern) × IsAcceptedIn dialect setting source p

  -- Some text for an accepted pattern, and nothing to standard output for a rejected one.
  abbrev pub IsExplanation : (accepted : Bool) → Setting → (source : List ℕ) → List ℕ → Type 0
  IsExplanation true setting source bytes = IsAcceptedPattern setting source
  IsExplanation false setting source bytes = NoneIsAcceptedIn dialect setting source × (bytes ≡ [])

  -- The ranges are those of all matches of the pattern in the text, in order.
  abbrev pub AreMatchRanges : Setting → (source text : List ℕ) → List (Range ℕ) → Type 0
  AreMatchRanges setting source text ranges =
      (r : Regex) × IsCompiledIn dialect setting source r × ((ms : List Match) × AreAllMatches text (outcomes_of r text) ms × (ranges ≡ map range_of ms))

  -- The text is shown, if one is given, and the ranges of all matches in it are marked.
  abbrev pub IsMarkedText : Setting → (source : List ℕ) → (text : Option (List ℕ)) → Option MarkedText → Type 0
  IsMarkedText setting source None marked = marked ≡ None
  IsMarkedText setting source (Some text) marked = (ranges : List (Range ℕ)) × AreMatchRanges setting source text ranges × (marked ≡ Some (text, ranges))

  -- a page about the pattern, and a line feed
  pub record IsPageLine (setting : Setting) (source : List ℕ) (text : Option (List ℕ)) (bytes : List ℕ) : Type 0 where
    pub marked : Option MarkedText
    pub matches : IsMarkedText setting source text marked
    pub html : List ℕ
    pub is : IsPageOf (chars source) marked html
    pub line : bytes ≡ html ++ codes "\n"

  -- Some text, or a page.
  abbrev pub HasForm : Form → Setting → (source : List ℕ) → List ℕ → Type 0
  HasForm lines setting source bytes = ⊤
  HasForm (page text) setting source bytes = IsPageLine setting source text bytes

  -- An explanation in this form of a pattern in UTF-8.
  abbrev pub IsExplanationIn : Form → (accepted : Bool) → Setting → (source : List ℕ) → List ℕ → Type 0
  IsExplanationIn form accepted setting source bytes =
      IsExplanation accepted setting (chars source) bytes × (accepted ≡ true → HasForm form setting source bytes)

  -- A failure that may occur when an accepted pattern is searched for: it may be too large or costly.
  abbrev pub MayFailToFind : Setting → (source : List ℕ) → Failure → Type 0
  MayFailToFind setting source Argument = ⊥
  MayFailToFind setting source Memory = ⊤
  MayFailToFind setting source Output = ⊥
  MayFailToFind setting source Closed = ⊥
  MayFailToFind setting source (Syntax pattern text position) = ⊥
  MayFailToFind setting source TooLarge = IsTooLarge setting (chars source) (options_in dialect)
  MayFailToFind setting source OutOfSteps = IsCostlyPatternIn dialect setting source
  MayFailToFind setting source (Unreadable unread) = ⊥
  MayFailToFind setting source Incomplete = ⊥
  MayFailToFind setting source (PatternNotUtf8 name offset) = ⊥
  MayFailToFind setting source (TooLong name) = ⊥

  -- A failure that may occur for an explanation: only with a text it is searched for.
  abbrev pub MayFailToExplain : Form → Setting → (source : List ℕ) → Failure → Type 0
  MayFailToExplain form setting source failure = IsLate failure ⊎ (HasText form × MayFailToFind setting source failure)
