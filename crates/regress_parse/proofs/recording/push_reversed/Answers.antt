use Rattle.std.proofs.Common.{◌++◌, List, Vec, sym, ap, ◌∙◌}
use Rattle.std.specs.declared.alloc.Global.{Global}
use Rattle.std.proofs.lemmas.List.{append_assoc}
use Rattle.regress_parse.specs.declared.span.Span.{Span}
use Rattle.regress_parse.specs.Recorded.{joined_in_reverse}
use Rattle.regress_parse.proofs.SpanLists.{reversed-push}
use Rattle.regress_parse.proofs.recording.push_reversed.Goals as goal

pub loop-part-preserved : goal.loop-part-preserved
loop-part-preserved c =
    let before = c.loop-part.spans.items in
    let rest = c.pop.new.self.items in
    ap (λ (ss : List Span). ss ++ joined_in_reverse rest) c.in_ok-extend_from_slice.ensures.items
    ∙ append_assoc before c.deref.result.now (joined_in_reverse rest)
    ∙ ap (λ (ss : List Span). before ++ (ss ++ joined_in_reverse rest)) c.deref.ensures.value
    ∙ ap (λ (ss : List Span). before ++ ss) (sym (reversed-push rest c.in-Some.part))
    ∙ ap (λ (ps : List (Vec Span Global)). before ++ joined_in_reverse ps) (sym c.in-Some.ensures.items)
    ∙ c.loop-part.invariant
