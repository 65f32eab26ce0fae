-- The result of reporting differences, from what it computed.
use Rattle.std.proofs.Common.{◌≡◌, ◌++◌, ◌<◌, ℕ, List, [], Bool, drop, length, true, false, refl, sym, ap, ◌∙◌, subst}
use Rattle.std.specs.Prelude.{IfOk, MatchBool, Result, Ok, Err}
use Rattle.regress_tree.specs.Steps.{Setting}
use Rattle.regress_lexer.specs.Source.{Source}
use Rattle.regress_syntax.specs.Syntax.{Pattern}
use Rattle.regress_parse.specs.Accepted.{IsAccepted, OfAccepted}
use Rattle.regress_parse.specs.declared.fault.PlacedFault.{PlacedFault}
use Rattle.regress_parse.specs.declared.fault.PlacedFault.TheVariants.{Syntax, Memory}
use Rattle.regress_parse.specs.Settled.{IsFaultOf}
use Rattle.regress_spans.specs.Paired.{spanned_of}
use Rattle.regress_parse.specs.TreeOf.{tree_of}
use Rattle.regress_ecma.specs.Compared.{IsOfUnicode}
use Rattle.regress_differences.specs.InEcma.{FindsMatchesOfEcma}
use Rattle.regress_differences.specs.Kinds as differing
use Rattle.regress_differences.specs.declared.kind.Difference.{Difference}
use Rattle.regress_capi.specs.DifferencesResults.{AreDifferences, AreNumbered, DifferencesResult, differences_written, differences_out_of_memory, differences_little, differences_bad, differences_rejected}
use Rattle.regress_capi.specs.Replies.{of_fault, of_items}
use Rattle.regress_capi.specs.declared.differing.NumberedDifference.{NumberedDifference}

module _ (setting : Setting) (source : Source) where
  -- what is stated of the differences of a pattern, as one record
  pub differences-are : {V : Type 0} (items : V → List Difference) (r : Result V PlacedFault) →
      IfOk r (λ v. (p : Pattern) × (accepted : IsAccepted setting source p)
      × differing.AreDifferences setting source (tree_of setting.table p) (spanned_of setting source p accepted.derived) (items v)) →
      IfOk r (λ v. items v ≡ [] → IsOfUnicode setting.table →
      OfAccepted setting source (λ p. FindsMatchesOfEcma setting source (tree_of setting.table p))) →
      IfOk r (λ v. AreDifferences setting source (items v))
  differences-are items (Ok v) listed matches =
      record { pattern = listed.0; accepted = listed.1; listed = listed.2; matches = matches }
  differences-are items (Err e) listed matches = tt

module _ {setting : Setting} {source : Source} where
  -- the differences written are those that are computed
  pub differences-given : {old new : List NumberedDifference} {needed : ℕ} (fits : Bool) (items handed : List NumberedDifference) →
      AreNumbered setting source items → needed ≡ length items → handed ≡ items →
      MatchBool fits (new ≡ handed ++ drop (length handed) old) ((new ≡ old) × (length old < length handed)) →
      DifferencesResult (Unit {0}) setting source old (of_items fits needed).status needed 0 0 new
  differences-given {old = old} true items handed are count same put =
      differences_written tt (items, are, count, put ∙ ap (λ xs. xs ++ drop (length xs) old) same)
  differences-given {old = old} {needed = needed} false items handed are count same left =
      subst (λ buffer. DifferencesResult (Unit {0}) setting source old 3 needed 0 0 buffer) (sym left.0)
      (differences_little tt (items, are, count, subst (λ xs. length old < length xs) same left.1))

  pub differences-fault : {old : List NumberedDifference} (fault : PlacedFault) → IsFaultOf setting source fault →
      DifferencesResult (Unit {0}) setting source old (of_fault fault).status (of_fault fault).needed (of_fault fault).kind
      (of_fault fault).position old
  differences-fault (Syntax kind error position) is =
      differences_rejected tt is.rejected (record { kind = kind; numbered = refl; reported = is.reported })
  differences-fault (Memory e) is = differences_out_of_memory tt

  -- of a pattern whose arguments are valid
  pub differences-asked : {A : Type 0} {old new : List NumberedDifference} {status needed kind position : ℕ} → A →
      DifferencesResult (Unit {0}) setting source old status needed kind position new →
      DifferencesResult A setting source old status needed kind position new
  differences-asked asked (differences_written u gives) = differences_written asked gives
  differences-asked asked (differences_out_of_memory u) = differences_out_of_memory asked
  differences-asked asked (differences_little u wants) = differences_little asked wants
  differences-asked asked (differences_bad none) = absurd (none tt)
  differences-asked asked (differences_rejected u none error) = differences_rejected asked none error
