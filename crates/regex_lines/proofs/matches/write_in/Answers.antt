use Rattle.std.proofs.Common.{map}
use Rattle.regress_arguments.specs.Output.{Took}
use Rattle.regex_lines.specs.Ending.{OrOutput}
use Rattle.regex_lines.specs.InLine.{IsFirstBy}
use Rattle.regex_lines.specs.Paint.{line_paint_of}
use Rattle.regex_lines.specs.Prefix.{text_of}
use Rattle.regex_lines.specs.Reply.{run_of}
use Rattle.regex_lines.proofs.MatchLemmas.{next_text, no_text, part_of_text}
use Rattle.regex_lines.proofs.lemmas.Failures.{or_output, passed_on}
use Rattle.regex_lines.proofs.matches.write_in.Goals as goal

pub loop-run-init : goal.loop-run-init
loop-run-init g c =
    no_text c.args.writer.searcher.now.regex.now c.args.writer.show.shown (line_paint_of c.args.writer.show.paint) (text_of c.args.writer.prefix) c.args.texts.now
    (g.W.Write.contents c.args.out.now) c.new-written.result.any c.new-written.result.prefix.items c.new-written.ensures

pub returns-in_err-write_text-clause-first : goal.returns-in_err-write_text-clause-first
returns-in_err-write_text-clause-first g c =
    let r = c.args.writer.searcher.now.regex.now in
    let shown = c.args.writer.show.shown in
    let p = line_paint_of c.args.writer.show.paint in
    let prefix = text_of c.args.writer.prefix in
    let texts = c.args.texts.now in
    let old = g.W.Write.contents c.args.out.now in
    let new = g.W.Write.contents c.write_text.new.out in
    let failure = c.in_err-write_text.field-0.0 in
    passed_on (OrOutput (Took old new (IsFirstBy r (map run_of texts) shown p prefix))) c.from_residual.result failure c.from_residual.ensures.1
    (or_output _ _ failure c.in_err-write_text.ensures.first
    (part_of_text r shown p prefix texts old c.loop-run.run-index c.loop-run.written.any c.loop-run.written.prefix.items (g.W.Write.contents c.loop-run.out)
    c.loop-run.invariant _ c.loop-run-test.true new))

pub loop-run-preserved : goal.loop-run-preserved
loop-run-preserved g c =
    let all = c.in_ok-write_text.ensures.all in
    next_text c.args.writer.searcher.now.regex.now c.args.writer.show.shown (line_paint_of c.args.writer.show.paint) (text_of c.args.writer.prefix) c.args.texts.now
    (g.W.Write.contents c.args.out.now) c.loop-run.run-index c.loop-run.written.any c.loop-run.written.prefix.items (g.W.Write.contents c.loop-run.out)
    c.loop-run.invariant _ c.loop-run-test.true (g.W.Write.contents c.write_text.new.out) all.0 all.1 c.write_text.new.written.any c.write_text.new.written.prefix.items
    all.2 c.in_ok-write_text.ensures.prefix all.3
