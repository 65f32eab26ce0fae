use Rattle.std.proofs.Common.{[], ◌∷◌, ◌++◌, List, ap, ◌∙◌}
use Rattle.std.proofs.lemmas.List.{append_assoc}
use Rattle.std.proofs.lemmas.Result.{on_ok_weaker}
use Rattle.regress_parse.specs.declared.span.Span.{Span}
use Rattle.regress_parse.specs.Parsing.{text}
use Rattle.regress_parse.specs.Recorded.{span_to}
use Rattle.regress_parse.proofs.parser.Parser.record_end.Goals as goal

pub returns : goal.returns
returns g c on =
    let whole = c.args.around.now.whole in
    let end = text c.args.self.now in
    on_ok_weaker c.record_if-2.result
    (λ added. added ∙ ap (λ (ss : List Span). ss ++ span_to whole whole end ∷ []) (c.in_ok-record_if.ensures on)
    ∙ append_assoc c.args.self.now.spans.items (span_to whole 0 end ∷ []) (span_to whole whole end ∷ []))
    (c.record_if-2.ensures on)
