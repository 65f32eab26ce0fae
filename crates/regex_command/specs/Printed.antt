-- What the program writes for a request, and where its pattern is.
use Rattle.std.specs.Prelude.{◌≡◌, ⊤, ℕ, List, [], ◌∷◌, Bool, true, false, ◌⊎◌, ◌||◌, ◌&&◌, ◌++◌, ◌==◌, Option, chars, codes, length, map}
use Rattle.std.specs.Io.KnownBytes.{Appends}
use Rattle.std.specs.List.{Any, FoldsTo}
use Rattle.regex_options.specs.Plain.{FileList, Job, matching, replacing, Source, in_argument, in_file}
use Rattle.regex_options.specs.Request.{Action, Ask, Request, apply, escape, explain, help, lint, search, show}
use Rattle.regex_options.specs.declared.task.InputForm.{InputForm}
use Rattle.regex_options.specs.declared.request.View.{View}
use Rattle.regress.specs.Compiled.{IsCompiledIn}
use Rattle.regress.specs.Failures.{IsTooLarge}
use Rattle.regress.specs.declared.pattern.Regex.{Regex}
use Rattle.regress_arguments.specs.Output.{Took}
use Rattle.regress_base.specs.declared.types.Flags.{Flags}
use Rattle.regress_display.specs.Request as trees
use Rattle.regress_display.specs.Request.{table_asked}
use Rattle.regress_display.specs.Shown.{IsFirstOutput}
use Rattle.regress_escape.specs.Escape.{escaped}
use Rattle.regress_front.specs.Rejected.{NoneIsAcceptedIn}
use Rattle.regress_front.specs.declared.parse.Dialect.{Dialect}
use Rattle.regress_tree.specs.Steps.{Setting}
use Rattle.regex_lines.specs.Ending.{IsCostlyPatternIn, IsLate, IsSearchFailure, MayFailToRead, options_in, setting_in}
use Rattle.regex_command.specs.Joined.{AreJoinable, are_parts, are_several, joined, refers, takes_several}
use Rattle.regex_command.specs.Patterns.{IsAcceptedPattern, IsExplanationIn, MayFailToExplain, MayFailToLint, IsReport, IsTreeOutput, IsQuietFor, IsShowFailure}
use Rattle.regex_lines.specs.Searched.{Input, Line, WritesInputs, WritesSomeOf, inputs_of, is_nothing, lines_of}
use Rattle.regex_lines.specs.Unread.{Unread}
use Rattle.regex_lines.specs.Walk.{Found, IsFound}
use Rattle.regex_lines.specs.declared.failure.Failure.TheVariants.{Argument, Memory, Output, Closed, Syntax, TooLarge, OutOfSteps, Unreadable, Incomplete, PatternNotUtf8, TooLong}
use Rattle.regex_lines.specs.declared.failure.Failure.{Failure}

-- the lines of a text, without their line feeds
abbrev pub texts_of_lines : List ℕ → List (List ℕ)
texts_of_lines text = map (λ (line : Line). line.bytes) (lines_of text)

-- The patterns of one more source. Those of a file are the lines of its text, of which nothing is known.
abbrev pub AreWith : (before : List (List ℕ)) → Source → (after : List (List ℕ)) → Type 0
AreWith before (in_argument text) after = after ≡ before ++ text ∷ []
AreWith before (in_file name) after = (text : List ℕ) × (after ≡ before ++ texts_of_lines text)

-- The patterns of all sources, in order.
abbrev pub ArePatternsOf : List Source → (patterns : List (List ℕ)) → Type 0
ArePatternsOf = FoldsTo AreWith []

-- P holds of the patterns of these sources.
abbrev pub OfPatterns : List Source → (P : List (List ℕ) → Type 0) → Type 0
OfPatterns sources P = (patterns : List (List ℕ)) × ArePatternsOf sources patterns × P patterns

-- Patterns are not known: memory is short, or a file cannot be read or is not UTF-8.
abbrev pub IsUnread : Source → Failure → Type 0
IsUnread (in_argument text) failure = failure ≡ Memory
IsUnread (in_file name) failure = MayFailToRead failure

abbrev pub AreUnread : List Source → Failure → Type 0
AreUnread sources failure = Any (λ source. IsUnread source failure) sources

-- No pattern is accepted, or it is too large for a search, or memory is short.
abbrev pub IsRejected : Dialect → Setting → (text : List ℕ) → Failure → Type 0
IsRejected dialect setting text Argument = ⊥
IsRejected dialect setting text Memory = ⊤
IsRejected dialect setting text Output = ⊥
IsRejected dialect setting text Closed = ⊥
IsRejected dialect setting text (Syntax pattern message position) = NoneIsAcceptedIn dialect setting (chars text)
IsRejected dialect setting text TooLarge = IsTooLarge setting (chars text) (options_in dialect)
IsRejected dialect setting text OutOfSteps = ⊥
IsRejected dialect setting text (Unreadable unread) = ⊥
IsRejected dialect setting text Incomplete = ⊥
IsRejected dialect setting text (PatternNotUtf8 name offset) = ⊥
IsRejected dialect setting text (TooLong name) = ⊥

abbrev pub IsSyntaxError : Failure → Type 0
IsSyntaxError (Syntax pattern message position) = ⊤
IsSyntaxError failure = ⊥

module _ (request : Request) (patterns : List (List ℕ)) (failure : Failure) where
  -- A pattern that becomes a part of another one is rejected.
  abbrev pub HasRejectedPart : Type 0
  HasRejectedPart = (are_parts request.form patterns ≡ true)
      × Any (λ pattern. IsRejected request.dialect (setting_in request.dialect request.flags) pattern failure) patterns

  -- There are several patterns where one is taken, or one of them refers to a group.
  abbrev pub AreBadSeveral : Type 0
  AreBadSeveral =
      (are_several patterns ≡ true)
      × ((takes_several request.action ≡ false) ⊎ Any (λ pattern. refers false (chars pattern) ≡ true) patterns) × IsSyntaxError failure

  -- The patterns cannot be joined, or memory is short.
  abbrev pub AreUnjoinable : Type 0
  AreUnjoinable = (failure ≡ Memory) ⊎ HasRejectedPart ⊎ AreBadSeveral

-- P holds of the pattern that is searched for.
abbrev pub OfPattern : Request → (P : List ℕ → Type 0) → Type 0
OfPattern request P = OfPatterns request.patterns (λ patterns. AreJoinable request patterns × P (joined request.form patterns))

-- There is no pattern that is searched for: those that are given cannot be read, or not be joined.
abbrev pub LacksPattern : Request → Failure → Type 0
LacksPattern request failure =
    AreUnread request.patterns failure ⊎ OfPatterns request.patterns (λ patterns. AreUnjoinable request patterns failure)

-- A failure of a search: a syntax error is due only if no pattern is accepted, and too many steps only if it is costly. Or
-- inputs were not read.
abbrev pub IsDue : Dialect → Setting → (text : List ℕ) → Failure → Type 0
IsDue dialect setting text failure =
    IsRejected dialect setting text failure ⊎ IsSearchFailure (IsCostlyPatternIn dialect setting text) failure ⊎ (failure ≡ Incomplete)

-- a job that changes lines
abbrev pub changes : Job → Bool
changes (matching s colors) = false
changes (replacing p) = true

-- whether nothing is shown of selected lines
abbrev pub is_silent : Job → Bool
is_silent (matching s colors) = is_nothing s.shown
is_silent (replacing p) = false

-- whether inputs may be left unread: none is, or nothing is shown, and a line is selected
abbrev pub is_complete : Job → (any : Bool) → (all_read : Bool) → Bool
is_complete job any all_read = all_read || (any && is_silent job)

-- whether nothing of these was left unread
abbrev pub are_read : (lost unread : List Unread) → Bool
are_read lost unread = length lost == 0 && length unread == 0

module _ (r : Regex) (job : Job) (inputs : List Input) (lost : List Unread) where
  -- All inputs were searched, and some not to their ends, as they could not be read, besides what was not found:
  -- `complete` states whether this may be. `found` states whether a line was selected, or the job changes lines.
  abbrev pub Searches : (old new : Option (List ℕ)) → (complete found : Bool) → Type 0
  Searches old new complete found =
      (any : Bool) × (found ≡ any || changes job)
      × ((unread : List Unread) × (is_complete job any (are_read lost unread) ≡ complete) × WritesInputs r job inputs old new unread any)

  -- What was searched before a failure: all inputs if it is that some were not read, and else the first lines, and maybe a part
  -- of the next.
  abbrev pub SearchesUntil : Failure → (old new : Option (List ℕ)) → Type 0
  SearchesUntil Incomplete old new = (found : Bool) × Searches old new false found
  SearchesUntil failure old new = (unread : List Unread) × WritesSomeOf r job inputs old new unread

module _ (dialect : Dialect) (setting : Setting) (text : List ℕ) (job : Job) (form : InputForm) (files : FileList) where
  -- P holds of files that are found.
  abbrev pub OfFound : (P : Found → Type 0) → Type 0
  OfFound P = (walked : Found) × IsFound files walked × P walked

  -- All files that are found were searched.
  abbrev pub PrintsAll : (input old new : Option (List ℕ)) → (found : Bool) → Type 0
  PrintsAll input old new found =
      (r : Regex) × IsCompiledIn dialect setting text r
      × OfFound (λ walked. Searches r job (inputs_of job form walked.several walked.files input) walked.unread old new true found)

  -- What was searched before a failure.
  abbrev pub PrintsFirst : (input old new : Option (List ℕ)) → Failure → Type 0
  PrintsFirst input old new failure =
      (r : Regex) × IsCompiledIn dialect setting text r
      × OfFound (λ walked. SearchesUntil r job (inputs_of job form walked.several walked.files input) walked.unread failure old new)

-- a text, escaped, on a line
abbrev pub PrintsEscaped : (old new : Option (List ℕ)) → (text : List ℕ) → Type 0
PrintsEscaped old new text = Took old new (λ bytes. (pattern : List ℕ) × (chars pattern ≡ escaped (chars text)) × (bytes ≡ pattern ++ codes "\n"))

-- the tree of a pattern, and how it is shown
abbrev pub view_of : View → Dialect → Flags → (text : List ℕ) → trees.Request
view_of view dialect flags text = record {
  format = view.format;
  stage = view.stage;
  table = table_asked view.small;
  pattern = chars text;
  flags = flags;
  dialect = dialect;
}

module _ (dialect : Dialect) (flags : Flags) (text : List ℕ) where
  -- What is written for a pattern: the output of a search, a tree, a report, or an explanation. `found` states whether
  -- something is found, the pattern is accepted, or for a report, there is nothing to report.
  abbrev pub Does : Action → (input old new : Option (List ℕ)) → (found : Bool) → Type 0
  Does (search job form files) input old new found =
      PrintsAll dialect (setting_in dialect flags) text job form files input old new found
  Does (show view) input old new found = Took old new (IsTreeOutput found (view_of view dialect flags text))
  Does lint input old new found = Took old new (IsReport dialect found (setting_in dialect flags) text)
  Does (explain form) input old new found = Took old new (IsExplanationIn dialect form found (setting_in dialect flags) text)

  -- What may be written before a failure: what a search writes before it, or the first of two trees.
  abbrev pub Begins : Action → (input old new : Option (List ℕ)) → Failure → Type 0
  Begins (search job form files) input old new failure =
      PrintsFirst dialect (setting_in dialect flags) text job form files input old new failure
  Begins (show view) input old new failure = Took old new (IsFirstOutput (view_of view dialect flags text))
  Begins lint input old new failure = ⊥
  Begins (explain form) input old new failure = ⊥

  -- A failure is due: a syntax error only for a search or a report whose pattern is rejected.
  abbrev pub MayFailAt : Action → Failure → Type 0
  MayFailAt (search job form files) failure = IsDue dialect (setting_in dialect flags) text failure
  MayFailAt (show view) failure = IsShowFailure (view_of view dialect flags text) failure
  MayFailAt lint failure = MayFailToLint dialect (setting_in dialect flags) (chars text) failure
  MayFailAt (explain form) failure = MayFailToExplain dialect form (setting_in dialect flags) text failure

-- What is written: a text about the program, an escaped text, or the output for a pattern.
abbrev pub Prints : (input old new : Option (List ℕ)) → (found : Bool) → Ask → Type 0
Prints input old new found (help text) = (found ≡ true) × Appends old new text
Prints input old new found (escape string) = (found ≡ true) × PrintsEscaped old new string
Prints input old new found (apply request) =
    OfPattern request (λ pattern. Does request.dialect request.flags pattern request.action input old new found)

-- Nothing is written to standard error where something is found, unless the search shows nothing: then messages of inputs
-- that are not read may be.
abbrev pub IsQuietFound : (quiet : Type 0) → Action → Type 0
IsQuietFound quiet (search job form files) = is_silent job ≡ false → quiet
IsQuietFound quiet (show view) = quiet
IsQuietFound quiet lint = quiet
IsQuietFound quiet (explain form) = quiet

abbrev pub IsQuietIfFound : (quiet : Type 0) → Ask → Type 0
IsQuietIfFound quiet (help text) = quiet
IsQuietIfFound quiet (escape string) = quiet
IsQuietIfFound quiet (apply request) = IsQuietFound quiet request.action

-- Nothing is written to standard error, unless a pattern is rejected that is to be shown or explained: then its syntax
-- error is. Of a search this is known if it selects nothing.
abbrev pub IsQuietAt : (none quiet : Type 0) → Action → Type 0
IsQuietAt none quiet (search job form files) = none → quiet
IsQuietAt none quiet (show view) = IsQuietFor view.format quiet
IsQuietAt none quiet lint = quiet
IsQuietAt none quiet (explain form) = ⊤

abbrev pub IsQuiet : (none quiet : Type 0) → Ask → Type 0
IsQuiet none quiet (help text) = quiet
IsQuiet none quiet (escape string) = quiet
IsQuiet none quiet (apply request) = IsQuietAt none quiet request.action

-- What is written before a failure: nothing, or what an action begins with.
abbrev pub PrintsSome : (input old new : Option (List ℕ)) → (nothing : Type 0) → Ask → Failure → Type 0
PrintsSome input old new nothing (help text) failure = nothing
PrintsSome input old new nothing (escape string) failure = nothing
PrintsSome input old new nothing (apply request) failure =
    nothing ⊎ OfPattern request (λ pattern. Begins request.dialect request.flags pattern request.action input old new failure)

-- A failure is due.
abbrev pub MayFail : Ask → Failure → Type 0
MayFail (help text) failure = IsLate failure
MayFail (escape string) failure = IsLate failure
MayFail (apply request) failure =
    LacksPattern request failure ⊎ OfPattern request (λ pattern. MayFailAt request.dialect request.flags pattern request.action failure)

-- the exit status if nothing is found: 2 if that means that the pattern is rejected
abbrev pub status_of_none : Action → ℕ
status_of_none (search job form files) = 1
status_of_none (show view) = 2
status_of_none lint = 1
status_of_none (explain form) = 2

abbrev pub status_if_none : Ask → ℕ
status_if_none (help text) = 2
status_if_none (escape string) = 2
status_if_none (apply request) = status_of_none request.action
