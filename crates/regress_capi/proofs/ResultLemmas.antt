-- The result of a call, from what it computed.
use Rattle.std.proofs.Common.{◌≡◌, ◌++◌, ◌<◌, ℕ, List, Bool, true, false, drop, length, refl, sym, ap, ◌∙◌, subst}
use Rattle.std.specs.Prelude.{MatchBool}
use Rattle.regress_tree.specs.Steps.{Setting}
use Rattle.regress_lexer.specs.Source.{Source}
use Rattle.regress_lexer.specs.declared.dialect.Dialect.{Dialect}
use Rattle.regress_lexer.specs.declared.fault.FaultKind.{FaultKind}
use Rattle.regress_parse.specs.declared.fault.PlacedFault.{PlacedFault}
use Rattle.regress_parse.specs.declared.fault.PlacedFault.TheVariants.{Syntax, Memory}
use Rattle.regress_parse.specs.Settled.{IsFaultIn, IsSyntaxErrorIn}
use Rattle.regress_lexer.specs.FaultKinds.{number_of}
use Rattle.regress_capi.specs.Replies.{of_fault, of_items, of_text}
use Rattle.regress_capi.specs.Results.{AreWords}
use Rattle.regress_capi.specs.EncodingResults.{EncodingResult, written, rejected}
use Rattle.regress_capi.specs.EncodingResults as words
use Rattle.regress_capi.specs.ErrorResults.{ErrorResult, faultless, reported}
use Rattle.regress_capi.specs.ErrorResults as faults

module _ {Asked : Type 0} {dialect : Dialect} {setting : Setting} {source : Source} where
  -- the words written are the words computed
  pub words-given : {optimized : Bool} {old new : List ℕ} {needed : ℕ} (fits : Bool) (items handed : List ℕ) → Asked →
      AreWords dialect setting source optimized items → needed ≡ length items → handed ≡ items →
      MatchBool fits (new ≡ handed ++ drop (length handed) old) ((new ≡ old) × (length old < length handed)) →
      EncodingResult Asked dialect setting source optimized old (of_items fits needed).status needed 0 0 new
  words-given {old = old} true items handed asked are count same put =
      written asked (items, are, count, put ∙ ap (λ xs. xs ++ drop (length xs) old) same)
  words-given {optimized = optimized} {old = old} {needed = needed} false items handed asked are count same left =
      subst (λ buffer. EncodingResult Asked dialect setting source optimized old 3 needed 0 0 buffer) (sym left.0)
      (words.little asked (items, are, count, subst (λ xs. length old < length xs) same left.1))

  pub words-fault : {optimized : Bool} {old : List ℕ} (fault : PlacedFault) → Asked →
      IsFaultIn dialect setting source fault →
      EncodingResult Asked dialect setting source optimized old (of_fault fault).status (of_fault fault).needed (of_fault fault).kind
      (of_fault fault).position old
  words-fault (Syntax kind error position) asked is = rejected asked is.rejected (record { kind = kind; numbered = refl; reported = is.reported })
  words-fault (Memory e) asked is = words.out_of_memory asked

  -- an accepted pattern has no syntax error
  pub no-fault : {old : List ℕ} (items : List ℕ) → Asked → AreWords dialect setting source false items → ErrorResult Asked dialect setting source old 0 0 0 0 old
  no-fault items asked are = faultless are.1.pattern asked are.1.accepted

  pub fault-given : {old new : List ℕ} (fits : Bool) (kind : FaultKind) (position : ℕ) (text handed : List ℕ) → Asked →
      IsSyntaxErrorIn dialect setting source kind text position → handed ≡ text →
      MatchBool fits (new ≡ handed ++ drop (length handed) old) ((new ≡ old) × (length old < length handed)) →
      ErrorResult Asked dialect setting source old (of_text fits (length handed) (number_of kind) position).status (length handed) (number_of kind) position new
  fault-given true kind position text handed asked is same put =
      reported asked is.rejected (handed, (record { kind = kind; numbered = refl; reported = is.reported }, same ∙ is.text), refl, put)
  fault-given {old = old} false kind position text handed asked is same left =
      subst (λ buffer. ErrorResult Asked dialect setting source old 3 (length handed) (number_of kind) position buffer) (sym left.0)
      (faults.little asked is.rejected (handed, (record { kind = kind; numbered = refl; reported = is.reported }, same ∙ is.text), refl, left.1))

-- -- of a text

module _ {A B : Type 0} (to : A → B) (from : B → A) {dialect : Dialect} {setting : Setting} {source : Source} where
  -- a request in code points, or in bytes
  pub words-asked : {optimized : Bool} {old new : List ℕ} {status needed kind position : ℕ} →
      EncodingResult A dialect setting source optimized old status needed kind position new →
      EncodingResult B dialect setting source optimized old status needed kind position new
  words-asked (written asked gives) = written (to asked) gives
  words-asked (rejected asked none error) = rejected (to asked) none error
  words-asked (words.out_of_memory asked) = words.out_of_memory (to asked)
  words-asked (words.little asked wants) = words.little (to asked) wants
  words-asked (words.bad none) = words.bad (λ asked. none (from asked))

  pub fault-asked : {old new : List ℕ} {status needed kind position : ℕ} →
      ErrorResult A dialect setting source old status needed kind position new → ErrorResult B dialect setting source old status needed kind position new
  fault-asked (faultless p asked accepted) = faultless p (to asked) accepted
  fault-asked (reported asked none gives) = reported (to asked) none gives
  fault-asked (faults.out_of_memory asked) = faults.out_of_memory (to asked)
  fault-asked (faults.little asked none wants) = faults.little (to asked) none wants
  fault-asked (faults.bad none) = faults.bad (λ asked. none (from asked))
