-- Syntax errors: their numbers, and what is known of them.
use Rattle.std.proofs.Common.{◌⊎◌, ◌<◌, ℕ, ◌-◌, inl, inr, length, Err, sym, subst, arith}
use Rattle.regress_base.specs.Limits.{max_capture_groups}
use Rattle.regress_tree.specs.Steps.{Setting}
use Rattle.regress_lexer.specs.declared.dialect.Dialect.{Dialect}
use Rattle.regress_lexer.specs.Fault.{OnKind}
use Rattle.regress_lexer.specs.FaultKinds.{number_of}
use Rattle.regress_lexer.specs.Source.{Source}
use Rattle.regress_lexer.specs.declared.fault.FaultKind.{FaultKind}
use Rattle.regress_lexer.specs.declared.fault.FaultKind.TheVariants.{UnbalancedParenthesis}
use Rattle.regress_lexer.specs.declared.fault.Fault.{Fault}
use Rattle.regress_syntax.specs.Scanning.{OnKindAt}
use Rattle.regress_syntax.specs.Syntax.{counts}
use Rattle.regress_parse.specs.Rejected.{IsTrueIn, MayExceed, NoneIsAcceptedIn, Says}
use Rattle.regress_parse.specs.Fault.{HasKind, RejectedOnlyIf, ReportsKind, without_position}
use Rattle.regress_parse.specs.Parsing.{HasMessageAndPosition}
use Rattle.regress_parse.specs.Settled.{IsAtFirstDuplicate, IsFinalIn, IsReportedIn, IsFaultIn}
use Rattle.regress_parse.specs.declared.fault.PlacedFault.{PlacedFault}
use Rattle.regress_parse.specs.declared.fault.PlacedFault.TheVariants.{Syntax, Memory}

-- each kind has a number
pub has_kind : (kind : FaultKind) → HasKind (number_of kind)
has_kind UnbalancedParenthesis = (omega arith, omega arith)
has_kind other = (omega arith, omega arith)

module _ (dialect : Dialect) (setting : Setting) (source : Source) where
  -- What an error states of each pattern of the source holds of no accepted one.
  none_accepted : (kind : FaultKind) → IsTrueIn dialect setting source kind → NoneIsAcceptedIn dialect setting source
  none_accepted kind true_of p accepted = by (true_of p accepted.derived)
    where
      by : Says kind p ⊎ (max_capture_groups < (counts p).groups) → ⊥
      by (inl (inl (is, more))) = omega (arith, more, accepted.limits.groups)
      by (inl (inr (inl (is, more)))) = omega (arith, more, accepted.limits.loops)
      by (inl (inr (inr (inl (is, more))))) = omega (arith, more, accepted.limits.nesting)
      by (inl (inr (inr (inr (is, inl conflict))))) = conflict accepted.names
      by (inl (inr (inr (inr (is, inr more))))) = omega (arith, more, accepted.limits.nesting)
      by (inr more) = omega (arith, more, accepted.limits.groups)

  -- what is known of an error is known of it with its text and its position
  pub placed_fault : (fault : Fault) (placed : PlacedFault) → HasMessageAndPosition (length source) fault placed →
      OnKind fault (IsTrueIn dialect setting source) → OnKind fault (MayExceed source) →
      OnKindAt fault (λ kind left. IsFinalIn dialect setting source kind (length source - left)) →
      OnKindAt fault (λ kind left. IsAtFirstDuplicate setting source kind (length source - left)) → IsFaultIn dialect setting source placed
  placed_fault fault (Syntax kind e position) (left, is, text, here, within) reported limits settled duplicate =
      let true_of : IsTrueIn dialect setting source kind = subst (λ f. OnKind f (IsTrueIn dialect setting source)) is reported in
      record {
        rejected = none_accepted kind true_of;
        text = text;
        reported = record {
          reported = true_of;
          limits = subst (λ f. OnKind f (MayExceed source)) is limits;
          within = within;
          settled =
              subst (IsFinalIn dialect setting source kind) (sym here)
              (subst (λ f. OnKindAt f (λ kind left. IsFinalIn dialect setting source kind (length source - left))) is settled);
          duplicate =
              subst (IsAtFirstDuplicate setting source kind) (sym here)
              (subst (λ f. OnKindAt f (λ kind left. IsAtFirstDuplicate setting source kind (length source - left))) is duplicate);
        };
      }
  placed_fault fault (Memory e) placed reported limits settled duplicate = tt

  -- the error without its kind and its position
  pub rejected_unplaced : (X : Type 0) (fault : PlacedFault) → IsFaultIn dialect setting source fault →
      RejectedOnlyIf {X = X} (Err (without_position fault)) (NoneIsAcceptedIn dialect setting source)
  rejected_unplaced X (Syntax kind e position) is = is.rejected
  rejected_unplaced X (Memory e) is = tt

  pub reports_unplaced : (X : Type 0) (P : FaultKind → Type 0) (fault : PlacedFault) → IsFaultIn dialect setting source fault →
      ((kind : FaultKind) (position : ℕ) → IsReportedIn dialect setting source kind position → P kind) →
      ReportsKind {X = X} (Err (without_position fault)) P
  reports_unplaced X P (Syntax kind e position) is known = (kind, is.text, known kind position is.reported)
  reports_unplaced X P (Memory e) is known = tt
