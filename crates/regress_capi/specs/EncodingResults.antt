-- The result of a call for the encoding of a tree.
use Rattle.std.specs.Prelude.{ℕ, Bool, List}
use Rattle.regress_tree.specs.Steps.{Setting}
use Rattle.regress_lexer.specs.Source.{Source}
use Rattle.regress_lexer.specs.declared.dialect.Dialect.{Dialect}
use Rattle.regress_parse.specs.Rejected.{NoneIsAcceptedIn}
use Rattle.regress_capi.specs.Results.{AreWords, IsErrorIn, Gives, IsTooSmall}

-- The status, `needed`, `kind`, `position`, and the buffer before and after. `Asked` states that the arguments are
-- valid.
pub data EncodingResult (Asked : Type 0) (dialect : Dialect) (setting : Setting) (source : Source) (optimized : Bool) (old : List ℕ) :
    (status needed kind position : ℕ) (new : List ℕ) → Type 0 where
  -- the whole encoding is written
  written : {needed : ℕ} {new : List ℕ} → Asked → Gives (AreWords dialect setting source optimized) needed old new →
      EncodingResult Asked dialect setting source optimized old 0 needed 0 0 new
  -- the pattern is rejected, with the kind and the position of its syntax error
  rejected : {kind position : ℕ} → Asked → NoneIsAcceptedIn dialect setting source → IsErrorIn dialect setting source kind position →
      EncodingResult Asked dialect setting source optimized old 5 0 kind position old
  -- an allocation failed
  out_of_memory : Asked → EncodingResult Asked dialect setting source optimized old 2 0 0 0 old
  -- the buffer is too small
  little : {needed : ℕ} → Asked → IsTooSmall (AreWords dialect setting source optimized) needed old →
      EncodingResult Asked dialect setting source optimized old 3 needed 0 0 old
  -- the arguments are invalid
  bad : (Asked → ⊥) → EncodingResult Asked dialect setting source optimized old 4 0 0 0 old
