use Rattle.std.proofs.Common.{◌++◌, min, List, ap, ◌∙◌}
use Rattle.regress_parse.specs.declared.span.Span.{Span}
use Rattle.regress_parse.specs.Recorded.{joined_in_reverse}
use Rattle.regress_parse.proofs.SpanLists.{reversed-push, split-apart}
use Rattle.regress_parse.proofs.recording.set_apart.Goals as goal

pub returns-clause-backwards : goal.returns-clause-backwards
returns-clause-backwards c before part on is from =
    let split = split-apart before part c.args.spans.now.items c.min-at.result c.args.begin is from
    (c.min-at.ensures ∙ ap (min c.args.begin) (c.len.ensures ∙ c.args.spans.now.ok.0)) in (
      c.in_ok-split_off.ensures.items ∙ split.0,
      ap joined_in_reverse c.in_ok-push.ensures.items
          ∙ reversed-push c.args.parts.now.items c.in_ok-split_off.field-0
          ∙ ap (λ (ss : List Span). ss ++ joined_in_reverse c.args.parts.now.items) (c.in_ok-split_off.ensures.tail ∙ split.1),
    )
