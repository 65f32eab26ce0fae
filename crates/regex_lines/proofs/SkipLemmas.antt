-- An input that cannot be read is added to those that are not read, and any other failure is passed on.
use Rattle.std.proofs.Common.{◌≡◌, inr, Bool, List, Option, ℕ, sym, subst}
use Rattle.std.specs.Prelude.{Result, Ok, Err, IfOk, IfErr}
use Rattle.regex_lines.specs.Ending.{AfterFailure, IsInputFailure, IsSearchFailure, OrOutput}
use Rattle.regex_lines.specs.Searched.{AddsInput, Named, PrintsLines, PrintsPart}
use Rattle.regex_lines.specs.Unread.{IsSkipped, Unread}
use Rattle.regex_lines.specs.declared.failure.Failure.{Failure}
use Rattle.regex_lines.specs.declared.failure.Failure.TheVariants.{Argument, Memory, Output, Closed, Syntax, TooLarge, OutOfSteps, Unreadable, Incomplete, PatternNotUtf8, TooLong}
use Rattle.regex_options.specs.Plain.{Job}
use Rattle.regex_lines.proofs.SearchLemmas.{lines_part}
use Rattle.regress.specs.declared.pattern.Regex.{Regex}

module _ (costly : Type 0) (r : Regex) (job : Job) (place : Named) (input before after : Option (List ℕ)) (old new : List Unread) where
  abbrev Begun : Type 0
  Begun = PrintsLines r job place input before after

  abbrev Part : Type 0
  Part = PrintsPart r job place input before after

  -- what is known of the result for an input
  pub record Ends (result : Result Bool Failure) : Type 0 where
    pub all : IfOk result (AddsInput r job place input before after old new)
    pub first : IfErr result (OrOutput Part)
    pub kept : IfErr result (λ _. new ≡ old)
    pub failed : IfErr result (IsSearchFailure costly)

  passed : (failure : Failure) (result : Result Bool Failure) → OrOutput Part failure → IsSearchFailure costly failure → (result ≡ Err failure) × (new ≡ old) →
      Ends result
  passed failure result begun may is = subst Ends (sym is.0) (record { all = tt; first = begun; kept = is.1; failed = may })

  pub skipped : (failure : Failure) (result : Result Bool Failure) → AfterFailure Begun Part failure → IsInputFailure costly failure →
      IsSkipped failure place.name old new result → Ends result
  skipped (Unreadable unread) (Ok any) begun may is = record { all = inr (begun, is.1, is.0); first = tt; kept = tt; failed = tt }
  skipped (Unreadable unread) (Err failure) begun may is =
      record { all = tt; first = inr (lines_part r job place input before after begun); kept = is.1; failed = subst (IsSearchFailure costly) (sym is.0) tt }
  skipped Argument result begun may is = passed Argument result begun may is
  skipped Memory result begun may is = passed Memory result begun may is
  skipped Output result begun may is = passed Output result begun may is
  skipped Closed result begun may is = passed Closed result begun may is
  skipped (Syntax pattern text position) result begun may is = passed (Syntax pattern text position) result begun may is
  skipped TooLarge result begun may is = passed TooLarge result begun may is
  skipped OutOfSteps result begun may is = passed OutOfSteps result begun may is
  skipped Incomplete result begun may is = passed Incomplete result begun may is
  skipped (PatternNotUtf8 name offset) result begun may is = passed (PatternNotUtf8 name offset) result begun may is
  skipped (TooLong name) result begun may is = passed (TooLong name) result begun may is
