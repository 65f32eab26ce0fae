use Rattle.std.proofs.Common.{◌∙◌, arith, length, subst, sym}
use Rattle.regex_lines.specs.Paint.{AreSpansIn}
use Rattle.regex_lines.proofs.FoundLemmas.{have_offsets}
use Rattle.regex_lines.proofs.PaintLemmas.{in_line}
use Rattle.regex_lines.proofs.painting.painted_line.Goals as goal

pub spans_of-requires-clause-offsets : goal.spans_of-requires-clause-offsets
spans_of-requires-clause-offsets c = have_offsets (length c.args.line.now) 0 c.args.found.now (omega arith) c.requires.order

pub painted_at-requires : goal.painted_at-requires
painted_at-requires c =
    subst (AreSpansIn (length c.args.line.now) 0) (sym (c.deref.ensures.value ∙ c.in_ok-spans.ensures))
    (in_line (length c.args.line.now) 0 c.args.found.now c.requires.order c.requires.inside)
