-- What is written for a rejected pattern.
use Rattle.std.proofs.Common.{◌≡◌, ◌⊎◌, ℕ, Bool, false, List, [], Option, inl, inr, refl, sym, subst}
use Rattle.std.specs.Prelude.{Result, Ok, Err, IfOk, IfErr}
use Rattle.regress_arguments.specs.Output.{Took}
use Rattle.regress_display.specs.Request.{NoneIsAccepted, Request}
use Rattle.regress_display.specs.Fault.{IsFaultOutput}
use Rattle.regress_display.specs.declared.request.Format.{Format}
use Rattle.regress_display.specs.declared.request.Format.TheVariants.{Text, Json, Svg}
use Rattle.regex_lines.specs.Ending.{IsOutputFailure, OrOutput}
use Rattle.regex_command.specs.Patterns.{HasFaultOutput, IsTreeOutput, IsFaultWritten, IsQuietFor, IsShowFailure}
use Rattle.regex_lines.specs.declared.failure.Failure.{Failure}
use Rattle.regex_lines.specs.declared.failure.Failure.TheVariants.{Output}
use Rattle.regex_command.proofs.LintLemmas.{appends_nothing}

-- Nothing is written to standard output, unless the format is JSON.
pub unwritten : (format : Format) (request : Request) (known : Option (List ℕ)) → NoneIsAccepted request → (format ≡ Text) ⊎ (format ≡ Svg) →
    Took known known (IsFaultWritten format request)
unwritten Text request known none is = ([], (none, refl), appends_nothing known)
unwritten Json request known none (inl is) = let bad : ⊥ = cc in absurd bad
unwritten Json request known none (inr is) = let bad : ⊥ = cc in absurd bad
unwritten Svg request known none is = ([], (none, refl), appends_nothing known)

pub quiet_otherwise : (format : Format) (quiet : Type 0) → (format ≡ Text) ⊎ (format ≡ Svg) → IsQuietFor format quiet
quiet_otherwise Text quiet is = tt
quiet_otherwise Json quiet (inl is) = let bad : ⊥ = cc in absurd bad
quiet_otherwise Json quiet (inr is) = let bad : ⊥ = cc in absurd bad
quiet_otherwise Svg quiet is = tt

pub quiet_always : (format : Format) (quiet : Type 0) → quiet → IsQuietFor format quiet
quiet_always Text quiet is = tt
quiet_always Json quiet is = is
quiet_always Svg quiet is = tt

-- The format is JSON.
module _ (request : Request) (r : Result Bool Failure) where
  pub json_written : (format : Format) (old new : Option (List ℕ)) → format ≡ Json →
      IfOk r (λ accepted. (accepted ≡ false) × Took old new (IsFaultOutput request)) →
      IfOk r (λ accepted. (accepted ≡ false) × Took old new (IsFaultWritten format request))
  json_written Text old new is shown = let bad : ⊥ = cc in absurd bad
  json_written Json old new is shown = shown
  json_written Svg old new is shown = let bad : ⊥ = cc in absurd bad

  pub json_failed : (format : Format) → format ≡ Json → IfErr r (λ failure. (failure ≡ Output) × NoneIsAccepted request) →
      IfErr r (λ failure. (failure ≡ Output) × HasFaultOutput format request)
  json_failed Text is failed = let bad : ⊥ = cc in absurd bad
  json_failed Json is failed = failed
  json_failed Svg is failed = let bad : ⊥ = cc in absurd bad

module _ (request : Request) (r : Result Bool Failure) where
  pub answers : (old between new : Option (List ℕ)) → between ≡ old →
      IfOk r (λ accepted. (accepted ≡ false) × Took between new (IsFaultWritten request.format request)) →
      IfOk r (λ accepted. Took old new (IsTreeOutput accepted request))
  answers old between new same = by r
    where
      by : (r : Result Bool Failure) → IfOk r (λ accepted. (accepted ≡ false) × Took between new (IsFaultWritten request.format request)) →
          IfOk r (λ accepted. Took old new (IsTreeOutput accepted request))
      by (Ok accepted) (is, took) =
          subst (λ (b : Bool). Took old new (IsTreeOutput b request)) (sym is)
          (subst (λ (o : Option (List ℕ)). Took o new (IsFaultWritten request.format request)) same took)
      by (Err failure) shown = tt

  pub fails : (P : Type 0) → IfErr r (λ failure. (failure ≡ Output) × HasFaultOutput request.format request) → IfErr r (OrOutput P)
  fails P = by r
    where
      by : (r : Result Bool Failure) → IfErr r (λ failure. (failure ≡ Output) × HasFaultOutput request.format request) → IfErr r (OrOutput P)
      by (Ok accepted) failed = tt
      by (Err failure) failed = inl (subst IsOutputFailure (sym failed.0) tt)

  pub is_due : IfErr r (λ failure. (failure ≡ Output) × HasFaultOutput request.format request) → IfErr r (IsShowFailure request)
  is_due = by r
    where
      by : (r : Result Bool Failure) → IfErr r (λ failure. (failure ≡ Output) × HasFaultOutput request.format request) → IfErr r (IsShowFailure request)
      by (Ok accepted) failed = tt
      by (Err failure) failed = subst (IsShowFailure request) (sym failed.0) (inr failed.1)
