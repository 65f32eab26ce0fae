use Rattle.std.proofs.Common.{ℕ, ◌++◌, List, [], ◌∷◌, sym, ap, ◌∙◌}
use Rattle.std.proofs.lemmas.List.{append_assoc}
use Rattle.regress_lexer.specs.Views.{source}
use Rattle.regress_parse.specs.declared.span.Span.{Span}
use Rattle.regress_parse.specs.Recorded.{alternations}
use Rattle.regress_parse.proofs.SpanLists.{alternations-push}
use Rattle.regress_parse.proofs.recording.record_alternations.Goals as goal

pub loop-left-preserved : goal.loop-left-preserved
loop-left-preserved c =
    let whole = c.args.around.now.whole in
    let end = source c.args.cursor.now in
    let before = c.loop-left.spans.items in
    let rest = c.pop.new.self.items in
    ap (λ (ss : List Span). ss ++ alternations whole rest end) c.in_ok-push.ensures.items
    ∙ append_assoc before (c.span.result ∷ []) (alternations whole rest end)
    ∙ ap (λ (s : Span). before ++ (s ∷ [] ++ alternations whole rest end)) c.span.ensures
    ∙ ap (λ (ss : List Span). before ++ ss) (sym (alternations-push whole rest c.in-Some.left end))
    ∙ ap (λ (ls : List ℕ). before ++ alternations whole ls end) (sym c.in-Some.ensures.items)
    ∙ c.loop-left.invariant
