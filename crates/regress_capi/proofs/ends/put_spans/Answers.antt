use Rattle.std.proofs.Common.{◌∷◌, arith, ap, ◌∙◌, flat_map, length-set, subst}
use Rattle.regress.specs.Compiled.{match_of}
use Rattle.regress.specs.Groups.{span_of, spans_left}
use Rattle.regress_capi.specs.Spans.{ends_of, match_ends}
use Rattle.regress_capi.proofs.PutLemmas.{HasPut, all_put, has_room, none_put, put_more}
use Rattle.regress_capi.proofs.ends.put_spans.Goals as goal

pub loop-span-init : goal.loop-span-init
loop-span-init c =
    none_put c.args.buffer.now (spans_left c.into_iter-span-iterator.result) (match_ends (match_of c.args.found.now)) (c.have_room.ensures c.if-not-have_room.false)
    (ap (flat_map ends_of) (ap spans_left c.into_iter-span-iterator.ensures.into_iter_gives ∙ c.groups-span-items.ensures))

pub bounds-buffer-count : goal.bounds-buffer-count
bounds-buffer-count c =
    let whole = match_ends (match_of c.args.found.now) in
    let sofar : HasPut c.args.buffer.now c.loop-span.buffer c.loop-span.count (span_of c.in-Some.span ∷ spans_left c.next.new.self) whole =
    subst (λ spans. HasPut c.args.buffer.now c.loop-span.buffer c.loop-span.count spans whole) c.in-Some.ensures.steps c.loop-span.invariant in
    omega (arith, has_room c.args.buffer.now c.loop-span.buffer c.loop-span.count (span_of c.in-Some.span) (spans_left c.next.new.self) whole sofar)

pub bounds-buffer-count-in-loop-span : goal.bounds-buffer-count-in-loop-span
bounds-buffer-count-in-loop-span c =
    let whole = match_ends (match_of c.args.found.now) in
    let sofar : HasPut c.args.buffer.now c.loop-span.buffer c.loop-span.count (span_of c.in-Some.span ∷ spans_left c.next.new.self) whole =
    subst (λ spans. HasPut c.args.buffer.now c.loop-span.buffer c.loop-span.count spans whole) c.in-Some.ensures.steps c.loop-span.invariant in
    omega (
      arith,
      has_room c.args.buffer.now c.loop-span.buffer c.loop-span.count (span_of c.in-Some.span) (spans_left c.next.new.self) whole sofar,
      length-set c.loop-span.buffer c.loop-span.count c.ends_of-start.result.0,
    )

pub loop-span-preserved : goal.loop-span-preserved
loop-span-preserved c =
    let whole = match_ends (match_of c.args.found.now) in
    put_more c.args.buffer.now c.loop-span.buffer c.loop-span.count (span_of c.in-Some.span) (spans_left c.next.new.self) whole
    (subst (λ spans. HasPut c.args.buffer.now c.loop-span.buffer c.loop-span.count spans whole) c.in-Some.ensures.steps c.loop-span.invariant)
    c.ends_of-start.result.0 c.ends_of-start.result.1 c.ends_of-start.ensures

pub returns : goal.returns
returns c =
    let whole = match_ends (match_of c.args.found.now) in
    all_put c.args.buffer.now c.loop-span.buffer c.loop-span.count whole
    (subst (λ spans. HasPut c.args.buffer.now c.loop-span.buffer c.loop-span.count spans whole) c.in-None.ensures.steps.0 c.loop-span.invariant)
