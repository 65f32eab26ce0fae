-- The results of the calls for the differences of a pattern.
use Rattle.std.specs.Prelude.{◌≡◌, ◌<◌, ◌≤◌, ℕ, List, [], map}
use Rattle.regress_tree.specs.Steps.{Setting}
use Rattle.regress_lexer.specs.Source.{Source}
use Rattle.regress_syntax.specs.Syntax.{Pattern}
use Rattle.regress_parse.specs.Accepted.{IsAccepted, OfAccepted}
use Rattle.regress_parse.specs.Rejected.{NoneIsAccepted}
use Rattle.regress_parse.specs.TreeOf.{tree_of}
use Rattle.regress_spans.specs.Paired.{spanned_of}
use Rattle.regress_ecma.specs.Compared.{IsOfUnicode}
use Rattle.regress_differences.specs.InEcma.{FindsMatchesOfEcma}
use Rattle.regress_differences.specs.Kinds as differing
use Rattle.regress_differences.specs.Kinds.{name_of, number_of, text_of}
use Rattle.regress_differences.specs.declared.kind.Difference.{Difference}
use Rattle.regress_differences.specs.declared.kind.DifferenceKind.{DifferenceKind}
use Rattle.regress_capi.specs.Results.{IsError, Gives, IsTooSmall}
use Rattle.regress_capi.specs.declared.differing.NumberedDifference.{NumberedDifference}

-- What is reported of the pattern that the source denotes. If that is nothing, its tree finds the matches of ECMA-262.
pub record AreDifferences (setting : Setting) (source : Source) (found : List Difference) : Type 0 where
  pub pattern : Pattern
  pub accepted : IsAccepted setting source pattern
  pub listed : differing.AreDifferences setting source (tree_of setting.table pattern) (spanned_of setting source pattern accepted.derived) found
  pub matches : found ≡ [] → IsOfUnicode setting.table →
      OfAccepted setting source (λ p. FindsMatchesOfEcma setting source (tree_of setting.table p))

-- a difference with its kind as a number
abbrev pub numbered : Difference → NumberedDifference
numbered d = record { kind = number_of d.kind; start = d.span.start; end = d.span.end }

-- those differences, in the same order
abbrev pub AreNumbered : Setting → Source → List NumberedDifference → Type 0
AreNumbered setting source items = (found : List Difference) × AreDifferences setting source found × (items ≡ map numbered found)

-- The status, `needed`, `kind`, `position`, and the buffer before and after. `Asked` states that the arguments are
-- valid.
pub data DifferencesResult (Asked : Type 0) (setting : Setting) (source : Source) (old : List NumberedDifference) :
    (status needed kind position : ℕ) (new : List NumberedDifference) → Type 0 where
  -- all differences are written
  differences_written : {needed : ℕ} {new : List NumberedDifference} → Asked → Gives (AreNumbered setting source) needed old new →
      DifferencesResult Asked setting source old 0 needed 0 0 new
  -- an allocation failed
  differences_out_of_memory : Asked → DifferencesResult Asked setting source old 2 0 0 0 old
  -- the buffer is too small
  differences_little : {needed : ℕ} → Asked → IsTooSmall (AreNumbered setting source) needed old →
      DifferencesResult Asked setting source old 3 needed 0 0 old
  -- the arguments are invalid
  differences_bad : (Asked → ⊥) → DifferencesResult Asked setting source old 4 0 0 0 old
  -- the pattern is rejected, with the kind and the position of its syntax error
  differences_rejected : {kind position : ℕ} → Asked → NoneIsAccepted setting source → IsError setting source kind position →
      DifferencesResult Asked setting source old 5 0 kind position old

-- There is a kind of difference with this number.
abbrev pub HasDifferenceKind : (number : ℕ) → Type 0
HasDifferenceKind number = (0 < number) × (number ≤ 4)

-- the name of the kind of difference with this number
abbrev pub IsDifferenceName : (number : ℕ) → List ℕ → Type 0
IsDifferenceName number name = (kind : DifferenceKind) × (number ≡ number_of kind) × (name ≡ name_of kind)

-- the text of the kind of difference with this number
abbrev pub IsDifferenceText : (number : ℕ) → List ℕ → Type 0
IsDifferenceText number text = (kind : DifferenceKind) × (number ≡ number_of kind) × (text ≡ text_of kind)
