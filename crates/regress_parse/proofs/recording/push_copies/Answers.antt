use Rattle.std.proofs.Common.{◌≡◌, ◌++◌, [], ◌∷◌, List, replicate, sym, ap, ◌∙◌}
use Rattle.std.proofs.lemmas.List.{append_assoc, append-nil, replicate_more}
use Rattle.regress_parse.specs.declared.span.Span.{Span}
use Rattle.regress_parse.proofs.recording.push_copies.Goals as goal

pub loop-i-init : goal.loop-i-init
loop-i-init c = sym (append-nil c.args.spans.now.items)

pub loop-i-preserved : goal.loop-i-preserved
loop-i-preserved c =
    c.in_ok-push.ensures.items
    ∙ ap (λ (ss : List Span). ss ++ c.args.span ∷ []) c.loop-i.invariant
    ∙ append_assoc c.args.spans.now.items (replicate c.loop-i._i c.args.span) (c.args.span ∷ [])
    ∙ ap (λ (ss : List Span). c.args.spans.now.items ++ ss) (replicate_more c.loop-i._i c.args.span)
