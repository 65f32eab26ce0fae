-- What is found of a pattern in the dialect `Ecma`, and values of the code as plain data.
use Rattle.std.specs.Borrow.{Bor}
use Rattle.std.specs.Prelude.{◌≡◌, ◌≢◌, List, [], option_map, zip}
use Rattle.regress_tree.specs.Steps.{Setting}
use Rattle.regress_tree.specs.Tree.{Tree, tree}
use Rattle.regress_tree.specs.declared.ir.node.Node.{Node}
use Rattle.regress_lexer.specs.Dialects.{flags_in_force}
use Rattle.regress_lexer.specs.Source.{Source}
use Rattle.regress_lexer.specs.declared.dialect.Dialect.TheVariants.{Ecma}
use Rattle.regress_syntax.specs.Syntax.{Pattern}
use Rattle.regress_parse.specs.Accepted.{IsAcceptedIn}
use Rattle.regress_parse.specs.Rejected.{NoneIsAcceptedIn}
use Rattle.regress_parse.specs.Spans.{IsWithin}
use Rattle.regress_parse.specs.declared.span.Span.{Span}
use Rattle.regress_spans.specs.Paired.{postorder, spanned_in}
use Rattle.regress_ecma.specs.Compared.{IsOfUnicode}
use Rattle.regress_differences.specs.InEcma.{FindsMatchesOfEcma, IsTreeInEcma}
use Rattle.regress_differences.specs.Reported as reported
use Rattle.regress_differences.specs.Reported.{whole}
use Rattle.regress_differences.specs.declared.in_ecma.InEcma.{InEcma}
use Rattle.regress_differences.specs.declared.in_ecma.InEcma.TheVariants.{Same, Other, Rejected, OtherFlags}
use Rattle.regress_differences.specs.declared.parts.Part.{Part}
use Rattle.regress_differences.specs.declared.parts.Spanned.{Spanned}

module _ (setting : Setting) (source : Source) (t : Tree) where
  -- the same tree; another one, with its spans; a syntax error at a place in the source; or other flags
  abbrev pub IsFoundInEcma : InEcma → Type 0
  IsFoundInEcma Same = IsTreeInEcma setting source t
  IsFoundInEcma (Other other) =
      (IsTreeInEcma setting source t → ⊥)
      × ((p : Pattern) × (accepted : IsAcceptedIn Ecma setting source p)
      × (zip (postorder (tree other.regex.node)) other.spans.items ≡ spanned_in Ecma setting source p accepted.derived))
  IsFoundInEcma (Rejected place) = NoneIsAcceptedIn Ecma setting source × IsWithin (whole source) place
  IsFoundInEcma OtherFlags = flags_in_force Ecma setting.flags ≢ setting.flags

  -- The same tree finds the matches of ECMA-262.
  abbrev pub MatchesIfSame : InEcma → Type 0
  MatchesIfSame Same = IsOfUnicode setting.table → FindsMatchesOfEcma setting source t
  MatchesIfSame (Other other) = Unit {0}
  MatchesIfSame (Rejected place) = Unit {0}
  MatchesIfSame OtherFlags = Unit {0}

  -- Without a part that differs, the tree finds the matches of ECMA-262.
  abbrev pub IsNoneIfMatching : List reported.Part → Type 0
  IsNoneIfMatching parts = parts ≡ [] → IsOfUnicode setting.table → FindsMatchesOfEcma setting source t

-- a node with its span, and a part, as plain data
abbrev pub node_at : Spanned → Tree × Span
node_at spanned = (tree spanned.node.now, spanned.span)

abbrev pub part_at : Part → reported.Part
part_at part = (option_map (λ (node : Bor Node). tree node.now) part.node, part.span)
