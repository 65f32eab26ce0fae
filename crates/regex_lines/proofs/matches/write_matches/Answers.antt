use Rattle.std.proofs.Common.{◌∙◌, List, ap, arith, inr, length, map, subst, sym}
use Rattle.regress_arguments.specs.Output.{Took}
use Rattle.regex_lines.specs.Ending.{OrOutput}
use Rattle.regex_lines.specs.InLine.{AreInLine, IsPartBy}
use Rattle.regex_lines.specs.Paint.{line_paint_of}
use Rattle.regex_lines.specs.Prefix.{text_of}
use Rattle.regex_lines.specs.Reply.{run_of, texts_of, whole}
use Rattle.regex_lines.specs.declared.runs.Run as code
use Rattle.regex_lines.proofs.MatchLemmas.{no_part, of_texts, part_of_texts, runs_have_offsets}
use Rattle.regex_lines.proofs.RunLemmas.{many_texts, one_text}
use Rattle.regex_lines.proofs.lemmas.Failures.{passed_on}
use Rattle.regex_lines.proofs.matches.write_matches.Goals as goal

pub returns-in_err-runs-in-Err-clause-first : goal.returns-in_err-runs-in-Err-clause-first
returns-in_err-runs-in-Err-clause-first g c =
    let r = c.args.writer.searcher.now.regex.now in
    let shown = c.args.writer.show.shown in
    let p = line_paint_of c.args.writer.show.paint in
    let prefix = text_of c.args.writer.prefix in
    let texts = texts_of c.args.line.now in
    let out = g.W.Write.contents c.args.out.now in
    passed_on (OrOutput (Took out out (IsPartBy r texts shown p prefix))) c.from_residual.result _ c.from_residual.ensures.1 (inr (no_part r texts shown p prefix out))

pub write_in-requires-in-Err : goal.write_in-requires-in-Err
write_in-requires-in-Err g c =
    let len = length c.args.line.now in
    runs_have_offsets len 0 c.deref.result.now (omega arith)
    (subst (λ (runs : List code.Run). AreInLine len 0 (map run_of runs)) (sym c.deref.ensures.value) c.in_ok-runs-in-Err.ensures.order)

pub returns-in-Ok-clause-found : goal.returns-in-Ok-clause-found
returns-in-Ok-clause-found g c =
    let line = c.args.line.now in
    of_texts c.args.writer.searcher.now.regex.now (whole c.in-Ok.text.now) (texts_of line) c.args.writer.show.shown (line_paint_of c.args.writer.show.paint)
    (text_of c.args.writer.prefix) (g.W.Write.contents c.args.out.now) (g.W.Write.contents c.write_in.new.out) c.write_in.result
    (ap whole c.in-Ok.ensures.cases.0 ∙ sym (one_text line c.in-Ok.ensures.cases.1)) c.write_in.ensures.found

pub returns-in-Ok-clause-first : goal.returns-in-Ok-clause-first
returns-in-Ok-clause-first g c =
    let line = c.args.line.now in
    part_of_texts c.args.writer.searcher.now.regex.now (whole c.in-Ok.text.now) (texts_of line) c.args.writer.show.shown (line_paint_of c.args.writer.show.paint)
    (text_of c.args.writer.prefix) (g.W.Write.contents c.args.out.now) (g.W.Write.contents c.write_in.new.out) c.write_in.result
    (ap whole c.in-Ok.ensures.cases.0 ∙ sym (one_text line c.in-Ok.ensures.cases.1)) c.write_in.ensures.first

pub returns-in_ok-runs-in-Err-clause-found : goal.returns-in_ok-runs-in-Err-clause-found
returns-in_ok-runs-in-Err-clause-found g c =
    let line = c.args.line.now in
    of_texts c.args.writer.searcher.now.regex.now (map run_of c.deref.result.now) (texts_of line) c.args.writer.show.shown (line_paint_of c.args.writer.show.paint)
    (text_of c.args.writer.prefix) (g.W.Write.contents c.args.out.now) (g.W.Write.contents c.write_in-in-Err.new.out) c.write_in-in-Err.result
    (ap (λ (runs : List code.Run). map run_of runs) c.deref.ensures.value ∙ c.in_ok-runs-in-Err.ensures.runs ∙ sym (many_texts line c.in-Err.ensures.cases.0))
    c.write_in-in-Err.ensures.found

pub returns-in_ok-runs-in-Err-clause-first : goal.returns-in_ok-runs-in-Err-clause-first
returns-in_ok-runs-in-Err-clause-first g c =
    let line = c.args.line.now in
    part_of_texts c.args.writer.searcher.now.regex.now (map run_of c.deref.result.now) (texts_of line) c.args.writer.show.shown (line_paint_of c.args.writer.show.paint)
    (text_of c.args.writer.prefix) (g.W.Write.contents c.args.out.now) (g.W.Write.contents c.write_in-in-Err.new.out) c.write_in-in-Err.result
    (ap (λ (runs : List code.Run). map run_of runs) c.deref.ensures.value ∙ c.in_ok-runs-in-Err.ensures.runs ∙ sym (many_texts line c.in-Err.ensures.cases.0))
    c.write_in-in-Err.ensures.first
