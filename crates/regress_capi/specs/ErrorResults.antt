-- The result of a call for the text of a syntax error.
use Rattle.std.specs.Prelude.{ℕ, List}
use Rattle.regress_tree.specs.Steps.{Setting}
use Rattle.regress_lexer.specs.Source.{Source}
use Rattle.regress_lexer.specs.declared.dialect.Dialect.{Dialect}
use Rattle.regress_syntax.specs.Syntax.{Pattern}
use Rattle.regress_parse.specs.Accepted.{IsAcceptedIn}
use Rattle.regress_parse.specs.Rejected.{NoneIsAcceptedIn}
use Rattle.regress_capi.specs.Results.{IsText, Gives, IsTooSmall}

-- The status, `needed`, `kind`, `position`, and the buffer before and after. `Asked` states that the arguments are
-- valid.
pub data ErrorResult (Asked : Type 0) (dialect : Dialect) (setting : Setting) (source : Source) (old : List ℕ) :
    (status needed kind position : ℕ) (new : List ℕ) → Type 0 where
  -- the pattern is accepted
  faultless : (p : Pattern) → Asked → IsAcceptedIn dialect setting source p → ErrorResult Asked dialect setting source old 0 0 0 0 old
  -- the pattern is rejected, and the text is written, with the kind and the position of the same syntax error
  reported : {needed kind position : ℕ} {new : List ℕ} → Asked → NoneIsAcceptedIn dialect setting source →
      Gives (IsText dialect setting source kind position) needed old new → ErrorResult Asked dialect setting source old 5 needed kind position new
  -- an allocation failed
  out_of_memory : Asked → ErrorResult Asked dialect setting source old 2 0 0 0 old
  -- the pattern is rejected, and the buffer is too small for the text
  little : {needed kind position : ℕ} → Asked → NoneIsAcceptedIn dialect setting source →
      IsTooSmall (IsText dialect setting source kind position) needed old → ErrorResult Asked dialect setting source old 3 needed kind position old
  -- the arguments are invalid
  bad : (Asked → ⊥) → ErrorResult Asked dialect setting source old 4 0 0 0 old
