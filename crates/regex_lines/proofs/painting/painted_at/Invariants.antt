-- What was added, and the rest of the line in color, are together what is wanted.
use Rattle.std.proofs.Common.{◌++◌, drop}
use Rattle.regex_lines.specs.Paint.{line_paint_of, painted_spans}
use Rattle.regex_lines.proofs.PaintLemmas.{Painting}
use Rattle.regex_lines.proofs.painting.painted_at.Given as goal

abbrev pub invariant-loop-span : goal.invariant-loop-span
invariant-loop-span l =
    let p = line_paint_of l.paint in
    Painting p l.line (l.prefix ++ painted_spans p l.line 0 l.spans) l.from (drop l.span-index l.spans) l.bytes.items
