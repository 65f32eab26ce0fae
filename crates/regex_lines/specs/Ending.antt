-- How a run of the program ends.
use Rattle.std.specs.Prelude.{◌≡◌, ◌⊎◌, ⊤, ℕ, Bool, false, List, None, Result, Ok, Err, chars}
use Rattle.regress.specs.Compiled.{IsCompiledIn}
use Rattle.regress.specs.Costs.{AllCostLimit, CostsLimit, factor_in}
use Rattle.regress.specs.Kept.{Keeps}
use Rattle.regress.specs.Limits.{default_options}
use Rattle.regress.specs.Unicode.{unicode_setting}
use Rattle.regress.specs.declared.failure.SearchError.{SearchError}
use Rattle.regress.specs.declared.failure.SearchError.TheVariants as errors
use Rattle.regress.specs.declared.limits.Options.{Options}
use Rattle.regress.specs.declared.pattern.Regex.{Regex}
use Rattle.regress_front.specs.Dialects.{flags_in_force}
use Rattle.regress_front.specs.declared.parse.Dialect.{Dialect}
use Rattle.regress_front.specs.declared.types.Flags.{Flags}
use Rattle.regress_parse.specs.declared.fault.PlacedFault.{PlacedFault}
use Rattle.regress_parse.specs.declared.fault.PlacedFault.TheVariants as placed
use Rattle.regress_tree.specs.Steps.{Setting}
use Rattle.regex_lines.specs.declared.failure.Failure.{Failure}
use Rattle.regex_lines.specs.declared.failure.Failure.TheVariants.{Argument, Memory, Output, Closed, Syntax, TooLarge, OutOfSteps, Unreadable, Incomplete, PatternNotUtf8, TooLong}

-- A failure that may occur for any pattern: memory is short, or the output cannot be written.
abbrev pub IsLate : Failure → Type 0
IsLate Argument = ⊥
IsLate Memory = ⊤
IsLate Output = ⊤
IsLate Closed = ⊤
IsLate (Syntax pattern text position) = ⊥
IsLate TooLarge = ⊥
IsLate OutOfSteps = ⊥
IsLate (Unreadable unread) = ⊥
IsLate Incomplete = ⊥
IsLate (PatternNotUtf8 name offset) = ⊥
IsLate (TooLong name) = ⊥

-- the default options with this dialect
abbrev pub options_in : Dialect → Options
options_in dialect = record default_options { dialect = dialect }

-- the flags in force, and the table of all of Unicode
abbrev pub setting_in : Dialect → Flags → Setting
setting_in dialect flags = unicode_setting (flags_in_force dialect flags)

-- In some text searches with the regular expression are not known to take linear time, and cost at least the step limit: one
-- search, or those for all matches.
pub record IsCostly (r : Regex) : Type 0 where
  pub text : List ℕ
  pub linear : factor_in r text ≡ None
  pub costs : CostsLimit r text 0 ⊎ AllCostLimit r text 0

module _ (dialect : Dialect) where
  -- The regular expression that the program compiles from a pattern: with the default options.
  pub record IsOwnIn (setting : Setting) (text : List ℕ) (r : Regex) : Type 0 where
    pub compiled : IsCompiledIn dialect setting text r
    pub keeps : Keeps (options_in dialect) setting.flags (chars text) r

  -- The regular expression of the pattern is costly.
  abbrev pub IsCostlyPatternIn : Setting → (text : List ℕ) → Type 0
  IsCostlyPatternIn setting text = (r : Regex) × IsOwnIn setting text r × IsCostly r

-- why a search fails, as a failure of the program
abbrev pub search_failure : SearchError → Failure
search_failure errors.Memory = Memory
search_failure errors.OutOfSteps = OutOfSteps
search_failure errors.TooMuchMemory = Memory

-- A search may be out of memory or need too much, and be out of steps if the pattern is costly.
abbrev pub IsSearchError : (costly : Type 0) → SearchError → Type 0
IsSearchError costly errors.Memory = ⊤
IsSearchError costly errors.OutOfSteps = costly
IsSearchError costly errors.TooMuchMemory = ⊤

-- A failure that may end the search of all inputs: the search may be out of steps if the pattern is costly.
abbrev pub IsSearchFailure : (costly : Type 0) → Failure → Type 0
IsSearchFailure costly Argument = ⊥
IsSearchFailure costly Memory = ⊤
IsSearchFailure costly Output = ⊤
IsSearchFailure costly Closed = ⊤
IsSearchFailure costly (Syntax pattern text position) = ⊥
IsSearchFailure costly TooLarge = ⊥
IsSearchFailure costly OutOfSteps = costly
IsSearchFailure costly (Unreadable unread) = ⊥
IsSearchFailure costly Incomplete = ⊥
IsSearchFailure costly (PatternNotUtf8 name offset) = ⊥
IsSearchFailure costly (TooLong name) = ⊤

-- A failure that may occur while an input is searched: one of these, or that the input cannot be read.
abbrev pub IsInputFailure : (costly : Type 0) → Failure → Type 0
IsInputFailure costly (Unreadable unread) = ⊤
IsInputFailure costly failure = IsSearchFailure costly failure

-- A failure that may occur while the file of a pattern is read.
abbrev pub MayFailToRead : Failure → Type 0
MayFailToRead Argument = ⊥
MayFailToRead Memory = ⊤
MayFailToRead Output = ⊥
MayFailToRead Closed = ⊥
MayFailToRead (Syntax pattern text position) = ⊥
MayFailToRead TooLarge = ⊥
MayFailToRead OutOfSteps = ⊥
MayFailToRead (Unreadable unread) = ⊤
MayFailToRead Incomplete = ⊥
MayFailToRead (PatternNotUtf8 name offset) = ⊤
MayFailToRead (TooLong name) = ⊥

-- The output could not be written.
abbrev pub IsOutputFailure : Failure → Type 0
IsOutputFailure Argument = ⊥
IsOutputFailure Memory = ⊥
IsOutputFailure Output = ⊤
IsOutputFailure Closed = ⊤
IsOutputFailure (Syntax pattern text position) = ⊥
IsOutputFailure TooLarge = ⊥
IsOutputFailure OutOfSteps = ⊥
IsOutputFailure (Unreadable unread) = ⊥
IsOutputFailure Incomplete = ⊥
IsOutputFailure (PatternNotUtf8 name offset) = ⊥
IsOutputFailure (TooLong name) = ⊥

-- The output could not be written, or P holds.
abbrev pub OrOutput : Type 0 → Failure → Type 0
OrOutput P failure = IsOutputFailure failure ⊎ P

-- P holds if the input could not be read further, and after any other failure Q, unless the output could not be written.
abbrev pub AfterFailure : (P Q : Type 0) → Failure → Type 0
AfterFailure P Q (Unreadable unread) = P
AfterFailure P Q failure = OrOutput Q failure

-- what is returned for a pattern that is rejected with this error
abbrev pub unaccepted : PlacedFault → Result Bool Failure
unaccepted (placed.Syntax kind error position) = Ok false
unaccepted (placed.Memory error) = Err Memory
