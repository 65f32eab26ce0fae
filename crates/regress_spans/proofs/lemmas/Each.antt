-- There is exactly one span for each node of the tree.
use Rattle.std.proofs.Common.{◌≡◌, List, length, sym, ap, ◌∙◌}
use Rattle.std.proofs.lemmas.List.{length-map}
use Rattle.regress_tree.specs.Steps.{Setting}
use Rattle.regress_tree.specs.Tree.{Tree}
use Rattle.regress_tree.specs.Visits.{nodes}
use Rattle.regress_lexer.specs.declared.dialect.Dialect.{Dialect}
use Rattle.regress_lexer.specs.Source.{Source}
use Rattle.regress_syntax.specs.Syntax.{Pattern}
use Rattle.regress_parse.specs.Accepted.{IsDerivedIn}
use Rattle.regress_parse.specs.TreeOf.{tree_of}
use Rattle.regress_parse.specs.declared.span.Span.{Span}
use Rattle.regress_parse.specs.Spans.{spans_in}
use Rattle.regress_spans.specs.Paired.{spanned_in}
use Rattle.regress_spans.proofs.lemmas.Paired.{tree_at, span_at, length-postorder, nodes_of_spanned, spans_of_spanned}

pub each_node : (dialect : Dialect) (setting : Setting) (source : Source) (p : Pattern) (derived : IsDerivedIn dialect setting source p) →
    length (spans_in dialect setting source p derived) ≡ nodes (tree_of setting.table p)
each_node dialect setting source p derived =
    let pairs = spanned_in dialect setting source p derived in
    ap (λ (ss : List Span). length ss) (sym (spans_of_spanned dialect setting source p derived))
    ∙ length-map pairs span_at
    ∙ sym (length-map pairs tree_at)
    ∙ ap (λ (ts : List Tree). length ts) (nodes_of_spanned dialect setting source p derived)
    ∙ length-postorder (tree_of setting.table p)
