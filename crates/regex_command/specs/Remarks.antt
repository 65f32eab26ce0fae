-- The remarks on a parsed pattern.
use Rattle.std.specs.Prelude.{◌≡◌, ◌++◌, ℕ, List, zip}
use Rattle.regress_front.specs.declared.parse.Dialect.{Dialect}
use Rattle.regress_parse.specs.declared.span.Span.{Span}
use Rattle.regress_spans.specs.Paired.{postorder}
use Rattle.regress_spans.specs.Remarks.{Said}
use Rattle.regress_tree.specs.Steps.{Setting}
use Rattle.regress_tree.specs.Tree.{Tree}
use Rattle.regress_warnings.specs.Warned as warnings
use Rattle.regex_command.specs.Patterns.{AreDifferencesIn}

-- These are the remarks on a source with this tree, whose nodes have these spans.
abbrev pub AreRemarks : Dialect → Setting → (source : List ℕ) → Tree → List Span → List Said → Type 0
AreRemarks dialect setting source t spans remarks =
    let nodes = zip (postorder t) spans in
    (found : List Said) × AreDifferencesIn dialect setting source t nodes found
    × (remarks ≡ found ++ warnings.all_said setting.flags.unicode_sets source nodes)
