-- What is reported of a pattern, by what is reported of its tree.
use Rattle.std.proofs.Common.{◌≡◌, List, length, sym, ap, subst, ◌∙◌}
use Rattle.std.specs.List.{All, zip}
use Rattle.regress_base.specs.Table.{Table}
use Rattle.regress_base.specs.declared.types.Flags.{Flags}
use Rattle.regress_tree.specs.Steps.{Setting}
use Rattle.regress_tree.specs.Tree.{Tree}
use Rattle.regress_lexer.specs.Source.{Source}
use Rattle.regress_syntax.specs.Syntax.{Pattern}
use Rattle.regress_parse.specs.Accepted.{IsAccepted, OneIsDerived, OfAccepted}
use Rattle.regress_parse.specs.Spans.{IsWithin, spans_of}
use Rattle.regress_parse.specs.TreeOf.{tree_of}
use Rattle.regress_parse.specs.declared.span.Span.{Span}
use Rattle.regress_spans.specs.Paired.{spanned_of}
use Rattle.regress_differences.specs.CaseMode.{widest_flags}
use Rattle.regress_differences.specs.InEcma.{FindsMatchesOfEcma}
use Rattle.regress_differences.specs.Kinds.{AreDifferences}
use Rattle.regress_differences.specs.declared.kind.Difference.{Difference}
use Rattle.regress_differences.proofs.PartLemmas.{of_differences, within_source}

module _ (table : Table) (source : Source) (flags : Flags) where
  abbrev setting : Flags → Setting
  setting f = record { flags = f; table = table }

  -- The tree is that of an accepted pattern.
  abbrev IsTreeOfOne : Tree → List Span → Type 0
  IsTreeOfOne t spans = (p : Pattern) × (accepted : IsAccepted (setting flags) source p) × (t ≡ tree_of table p)
      × (spans ≡ spans_of (setting flags) source p accepted.derived)

  pub of_pattern : (given : Flags) → given ≡ flags → (t : Tree) (spans : List Span) (nodes : List (Tree × Span)) (found : List Difference) →
      OneIsDerived (setting flags) source → IsTreeOfOne t spans →
      (p : Pattern) × (accepted : IsAccepted (setting flags) source p) × (nodes ≡ spanned_of (setting flags) source p accepted.derived) →
      AreDifferences (setting given) source t nodes found →
      (p : Pattern) × (accepted : IsAccepted (setting flags) source p)
      × AreDifferences (setting flags) source (tree_of table p) (spanned_of (setting flags) source p accepted.derived) found
  of_pattern given same t spans nodes found only (q, other, is, placed) (p, accepted, paired) are = (
    p,
    accepted,
    subst (λ (u : Tree). AreDifferences (setting flags) source u (spanned_of (setting flags) source p accepted.derived) found)
        (is ∙ ap (tree_of table) (only q p other.derived accepted.derived))
        (subst (λ (xs : List (Tree × Span)). AreDifferences (setting flags) source t xs found) paired
        (subst (λ (f : Flags). AreDifferences (setting f) source t nodes found) same are)),
  )

  pub finds_of_pattern : (given : Flags) → given ≡ flags → (t : Tree) (spans : List Span) → OneIsDerived (setting flags) source → IsTreeOfOne t spans →
      FindsMatchesOfEcma (setting given) source t → OfAccepted (setting flags) source (λ p. FindsMatchesOfEcma (setting flags) source (tree_of table p))
  finds_of_pattern given same t spans only (q, other, is, placed) finds = λ p accepted.
      subst (λ (u : Tree). FindsMatchesOfEcma (setting flags) source u) (is ∙ ap (tree_of table) (only q p other.derived accepted.derived))
      (subst (λ (f : Flags). FindsMatchesOfEcma (setting f) source t) same finds)

-- The spans that are reported are within the pattern.
pub within_pattern : (setting : Setting) (source : Source) (t : Tree) (ts : List Tree) (spans : List Span) (found : List Difference) →
    AreDifferences setting source t (zip ts spans) found → All (IsWithin (record { start = 0; end = length source })) spans →
    All (λ d. IsWithin (record { start = 0; end = length source }) d.span) found
within_pattern setting source t ts spans found (parts, are, is) all =
    let P : Span → Type 0 = IsWithin (record { start = 0; end = length source }) in
    subst (λ (ds : List Difference). All (λ d. P d.span) ds) (sym is)
    (of_differences P (widest_flags setting.flags source) source parts (within_source setting source t ts spans parts are all))
