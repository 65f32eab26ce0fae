use Rattle.std.proofs.Common.{◌≡◌, ◌++◌, append-nil, flat_map, sym, ap, ◌∙◌, subst}
use Rattle.regress.specs.Compiled.{match_of}
use Rattle.regress.specs.Groups.{span_of, spans_left}
use Rattle.regress_capi.specs.Spans.{ends_of, match_ends}
use Rattle.regress_capi.proofs.SearchLemmas.{span_more}
use Rattle.regress_capi.proofs.ends.push_spans.Goals as goal

pub loop-span-init : goal.loop-span-init
loop-span-init c =
    ap (λ spans. c.args.ends.now.items ++ flat_map ends_of spans)
    (ap spans_left c.into_iter-span-iterator.ensures.into_iter_gives ∙ c.groups-span-items.ensures)

pub loop-span-preserved : goal.loop-span-preserved
loop-span-preserved c =
    rw (c.in_ok-push-2.ensures.items, c.in_ok-push.ensures.items)
    (span_more (span_of c.in-Some.span) (spans_left c.next.new.self) c.ends_of-start.result.0 c.ends_of-start.result.1 c.loop-span.ends.items
    (c.args.ends.now.items ++ match_ends (match_of c.args.found.now)) c.ends_of-start.ensures
    (subst (λ spans. c.loop-span.ends.items ++ flat_map ends_of spans ≡ c.args.ends.now.items ++ match_ends (match_of c.args.found.now))
    c.in-Some.ensures.steps c.loop-span.invariant))

pub returns : goal.returns
returns c =
    sym (append-nil c.loop-span.ends.items)
    ∙ ap (λ spans. c.loop-span.ends.items ++ flat_map ends_of spans) (sym c.in-None.ensures.steps.0) ∙ c.loop-span.invariant
