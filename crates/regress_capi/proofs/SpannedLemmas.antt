-- The result of parsing with spans, from what it computed.
use Rattle.std.proofs.Common.{◌≡◌, ◌++◌, ◌<◌, ℕ, Bool, true, false, List, drop, length, refl, sym, ap, subst}
use Rattle.std.specs.Prelude.{◌⊎◌, IfOk, MatchBool, Result, Ok, Err, zip}
use Rattle.regress_tree.specs.Steps.{Setting}
use Rattle.regress_tree.specs.Tree.{Tree}
use Rattle.regress_tree.specs.Visits.{nodes}
use Rattle.regress_tree.specs.WellFormed.{captures}
use Rattle.regress_lexer.specs.Source.{Source}
use Rattle.regress_lexer.specs.declared.dialect.Dialect.{Dialect}
use Rattle.regress_syntax.specs.Syntax.{Pattern}
use Rattle.regress_parse.specs.Accepted.{IsAcceptedIn, Means, OfAcceptedIn}
use Rattle.regress_parse.specs.TreeOf.{tree_of}
use Rattle.regress_parse.specs.Spans.{spans_in}
use Rattle.regress_parse.specs.declared.fault.PlacedFault.{PlacedFault}
use Rattle.regress_parse.specs.declared.fault.PlacedFault.TheVariants.{Syntax, Memory}
use Rattle.regress_parse.specs.declared.span.Span.{Span}
use Rattle.regress_parse.specs.Settled.{IsFaultIn}
use Rattle.regress_spans.specs.Paired.{postorder, spanned_in}
use Rattle.regress_capi.specs.Replies.{of_fault, of_items}
use Rattle.regress_capi.specs.SpannedResults.{ArePlaced, AreSpannedWords, SpannedResult, spanned_written, spanned_rejected, spanned_out_of_memory, spanned_little, spanned_bad}
use Rattle.regress_capi.specs.declared.spanning.NodeSpan.{NodeSpan}

module _ (dialect : Dialect) (setting : Setting) (source : Source) where
  -- what is stated of a tree and its spans, as one record
  pub placed-are : {V : Type 0} (root : V → Tree) (spans : V → List Span) (r : Result V PlacedFault) →
      IfOk r (λ v. (p : Pattern) × (accepted : IsAcceptedIn dialect setting source p) × (root v ≡ tree_of setting.table p)
      × (spans v ≡ spans_in dialect setting source p accepted.derived)) →
      IfOk r (λ v. (p : Pattern) × (accepted : IsAcceptedIn dialect setting source p)
      × (zip (postorder (root v)) (spans v) ≡ spanned_in dialect setting source p accepted.derived)) →
      IfOk r (λ v. length (spans v) ≡ nodes (root v)) → IfOk r (λ v. OfAcceptedIn dialect setting source (Means setting (root v))) →
      IfOk r (λ v. ArePlaced dialect setting source (root v) (spans v))
  placed-are root spans (Ok v) spanned paired each meaning = record {
    result = record {
      pattern = spanned.0;
      accepted = spanned.1;
      parsed = λ _. spanned.2;
      normal = λ optimized. cc;
      meaning = meaning spanned.0 spanned.1;
      captures = ap captures spanned.2;
    };
    pattern = paired.0;
    accepted = paired.1;
    paired = paired.2;
    each = each;
  }
  placed-are root spans (Err e) spanned paired each meaning = tt

module _ {dialect : Dialect} {setting : Setting} {source : Source} {A : Type 0} {old_words : List ℕ} {old_spans : List NodeSpan} where
  -- of a pattern whose arguments are valid
  pub spanned-asked : {words : List ℕ} {spans : List NodeSpan} {status needed spans_needed kind position : ℕ} → A →
      SpannedResult (Unit {0}) dialect setting source old_words old_spans status needed spans_needed kind position words spans →
      SpannedResult A dialect setting source old_words old_spans status needed spans_needed kind position words spans
  spanned-asked asked (spanned_written u gives) = spanned_written asked gives
  spanned-asked asked (spanned_rejected u none error) = spanned_rejected asked none error
  spanned-asked asked (spanned_out_of_memory u) = spanned_out_of_memory asked
  spanned-asked asked (spanned_little u wants) = spanned_little asked wants
  spanned-asked asked (spanned_bad none) = absurd (none tt)

  -- the words and spans written are those that are computed
  pub spanned-given : {words : List ℕ} {spans : List NodeSpan} {needed spans_needed : ℕ} (fit : Bool) (xs : List ℕ) (ys : List NodeSpan) → A →
      AreSpannedWords dialect setting source xs ys → needed ≡ length xs → spans_needed ≡ length ys →
      MatchBool fit ((words ≡ xs ++ drop (length xs) old_words) × (spans ≡ ys ++ drop (length ys) old_spans))
      ((words ≡ old_words) × (spans ≡ old_spans) × ((length old_words < length xs) ⊎ (length old_spans < length ys))) →
      SpannedResult A dialect setting source old_words old_spans (of_items fit needed).status needed spans_needed 0 0 words spans
  spanned-given true xs ys asked are count spans_count put = spanned_written asked (xs, ys, are, count, spans_count, put.0, put.1)
  spanned-given {words} {spans} {needed} {spans_needed} false xs ys asked are count spans_count left =
      subst (λ ws. SpannedResult A dialect setting source old_words old_spans 3 needed spans_needed 0 0 ws spans) (sym left.0)
      (subst (λ ss. SpannedResult A dialect setting source old_words old_spans 3 needed spans_needed 0 0 old_words ss) (sym left.1)
      (spanned_little asked (xs, ys, are, count, spans_count, left.2)))

  pub spanned-fault : (fault : PlacedFault) → A → IsFaultIn dialect setting source fault →
      SpannedResult A dialect setting source old_words old_spans (of_fault fault).status (of_fault fault).needed 0 (of_fault fault).kind
      (of_fault fault).position old_words old_spans
  spanned-fault (Syntax kind error position) asked is =
      spanned_rejected asked is.rejected (record { kind = kind; numbered = refl; reported = is.reported })
  spanned-fault (Memory e) asked is = spanned_out_of_memory asked
