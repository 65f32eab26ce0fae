-- The result of compiling a pattern, from what it computed.
use Rattle.std.proofs.Common.{◌≡◌, ℕ, List, Option, chars, refl, sym, subst}
use Rattle.std.specs.Prelude.{Some}
use Rattle.regress_front.specs.Steps.{Setting}
use Rattle.regress_lexer.specs.FaultKinds.{number_of}
use Rattle.regress_lexer.specs.declared.fault.FaultKind.{FaultKind}
use Rattle.regress_parse.specs.Rejected.{NoneIsAcceptedIn}
use Rattle.regress_parse.specs.Settled.{IsReportedIn, IsSyntaxErrorIn}
use Rattle.regress.specs.Failures.{IsTooLarge}
use Rattle.regress.specs.declared.limits.Options.{Options}
use Rattle.regress.specs.declared.pattern.Regex.{Regex}
use Rattle.regress_capi.specs.CompileResults.{CompileResult, IsCompiledWithin, compiled, rejected, too_large}

module _ {Asked : Type 0} {setting : Setting} {text : List ℕ} {options : Options} {old : Option Regex} (pattern : List ℕ) (asked : Asked) (same : pattern ≡ text) where
  pub compile-ok : (new : Option Regex) (regex : Regex) → IsCompiledWithin setting pattern options regex → new ≡ Some regex →
      CompileResult Asked setting text options old 0 0 0 new
  compile-ok new regex is made =
      subst (λ v. CompileResult Asked setting text options old 0 0 0 v) (sym made) (compiled asked (subst (λ t. IsCompiledWithin setting t options regex) same is))

  pub compile-rejected : (kind : FaultKind) (message : List ℕ) (position : ℕ) → IsSyntaxErrorIn options.dialect setting (chars pattern) kind message position →
      CompileResult Asked setting text options old 5 (number_of kind) position old
  compile-rejected kind message position error =
      rejected asked (subst (λ t. NoneIsAcceptedIn options.dialect setting (chars t)) same error.rejected) (record {
        kind = kind;
        numbered = refl;
        reported = subst (λ t. IsReportedIn options.dialect setting (chars t) kind position) same error.reported;
      })

  pub compile-large : IsTooLarge setting (chars pattern) options → CompileResult Asked setting text options old 6 0 0 old
  compile-large large = too_large asked (subst (λ t. IsTooLarge setting (chars t) options) same large)
