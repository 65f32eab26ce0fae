use Rattle.std.proofs.Common.{◌≤◌, get_or, length, rules}
use Rattle.std.proofs.lemmas.List.{get_or_default}
use Rattle.regex_lines.specs.Paint.{line_paint_of}
use Rattle.regex_lines.specs.declared.spans.Span.{Span}
use Rattle.regex_lines.proofs.PaintLemmas.{within}
use Rattle.regex_lines.proofs.painting.painted_at.Goals as goal

-- the item of a list that is empty
abbrev no_span : Span
no_span = record { start = 0; end = 0 }

pub slice_bounds-extend_from_slice-end : goal.slice_bounds-extend_from_slice-end
slice_bounds-extend_from_slice-end c =
    let spans = c.args.spans.now in
    let i = c.loop-span.span-index in
    let span = get_or spans i no_span in
    let is = get_or_default spans i no_span span c.loop-span-test.true in
    let inside = within (line_paint_of c.args.paint) c.args.line.now _ spans i span c.loop-span-test.true is c.loop-span.from
    c.loop-span.bytes.items c.loop-span.invariant in
    let starts : span.start ≤ length c.args.line.now = inside.0 in
    search rules

pub slice_bounds-add_painted-end : goal.slice_bounds-add_painted-end
slice_bounds-add_painted-end c =
    let spans = c.args.spans.now in
    let i = c.loop-span.span-index in
    let span = get_or spans i no_span in
    let is = get_or_default spans i no_span span c.loop-span-test.true in
    let inside = within (line_paint_of c.args.paint) c.args.line.now _ spans i span c.loop-span-test.true is c.loop-span.from
    c.loop-span.bytes.items c.loop-span.invariant in
    let ends : span.end ≤ length c.args.line.now = inside.1 in
    search rules
