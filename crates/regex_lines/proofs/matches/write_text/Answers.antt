use Rattle.std.proofs.Common.{◌≡◌, Some, inr, subst, sym}
use Rattle.regress.specs.Compiled.{outcomes_of}
use Rattle.regress.specs.Searched.{Advances}
use Rattle.regress.proofs.lemmas.Paid.{none_paid}
use Rattle.regex_lines.specs.Ending.{IsCostly, IsSearchFailure, OrOutput, search_failure}
use Rattle.regex_lines.specs.Paint.{line_paint_of}
use Rattle.regex_lines.specs.Prefix.{text_of}
use Rattle.regex_lines.specs.Reply.{run_of}
use Rattle.regex_lines.proofs.CostLemmas.{searched_failure}
use Rattle.regex_lines.proofs.MatchLemmas.{IsPart, SoFar, all_written, begins, costly, first_written, goes_on, inside_text, none_found}
use Rattle.regex_lines.proofs.SomewhereLemmas.{nowhere_none}
use Rattle.regex_lines.proofs.lemmas.Failures.{late_failure, or_output, passed_on}
use Rattle.regex_lines.proofs.matches.write_text.Goals as goal

pub returns-then-lacks_literal-clause-all : goal.returns-then-lacks_literal-clause-all
returns-then-lacks_literal-clause-all g c =
    let r = c.args.writer.searcher.now.regex.now in
    let text = c.args.run.text.now in
    none_found r c.args.writer.show.shown (line_paint_of c.args.writer.show.paint) (text_of c.args.writer.prefix) (run_of c.args.run) (g.W.Write.contents c.args.out.now)
    c.args.written.now.any (nowhere_none text (outcomes_of r text) (c.lacks_literal.ensures c.if-lacks_literal.true))

pub loop-found-init : goal.loop-found-init
loop-found-init g c =
    let r = c.args.writer.searcher.now.regex.now in
    let text = c.args.run.text.now in
    let shown = c.args.writer.show.shown in
    let p = line_paint_of c.args.writer.show.paint in
    let prefix = text_of c.args.writer.prefix in
    let run = run_of c.args.run in
    let out = g.W.Write.contents c.args.out.now in
    let any = c.args.written.now.any in
    let filled = c.args.written.now.prefix.items in
    let made = c.find_iter-found-items.ensures in
    let matches = c.find_iter-found-items.result in
    subst (λ now. SoFar r shown p prefix run out any now any filled out) (sym c.into_iter-found-iterator.ensures.into_iter_gives)
    (begins r shown p prefix run out any matches filled made.text made.outcomes made.failed made.from
    (none_paid r text 0 matches made.matcher made.text made.limit made.remaining) c.requires.prefix)

pub returns-in_err-found-clause-first : goal.returns-in_err-found-clause-first
returns-in_err-found-clause-first g c =
    let r = c.args.writer.searcher.now.regex.now in
    let shown = c.args.writer.show.shown in
    let p = line_paint_of c.args.writer.show.paint in
    let prefix = text_of c.args.writer.prefix in
    let run = run_of c.args.run in
    let old = g.W.Write.contents c.args.out.now in
    let new = g.W.Write.contents c.loop-found.out in
    passed_on (OrOutput (IsPart r shown p prefix run old new)) c.from_residual.result _ c.from_residual.ensures.1
    (inr (first_written r shown p prefix run old c.args.written.now.any c.loop-found.found-iterator c.loop-found.written.any c.loop-found.written.prefix.items new c.loop-found.invariant))

pub returns-in_err-found-clause-failed : goal.returns-in_err-found-clause-failed
returns-in_err-found-clause-failed g c =
    let r = c.args.writer.searcher.now.regex.now in
    let error = c.in_err-found.field-0.0 in
    let now = c.loop-found.found-iterator in
    let new = c.next.new.self in
    passed_on (IsSearchFailure (IsCostly r)) c.from_residual.result (search_failure error) c.from_residual.ensures.1
    (searched_failure (IsCostly r) error (costly r c.args.run.text.now now c.loop-found.invariant.ms c.loop-found.invariant.has new error
    (subst (λ item. Advances now (Some item) new) c.in_err-found.was c.in-Some.ensures.steps)))

pub write_match-requires-clause-inside : goal.write_match-requires-clause-inside
write_match-requires-clause-inside g c =
    let now = c.loop-found.found-iterator in
    let new = c.next.new.self in
    inside_text c.args.writer.searcher.now.regex.now c.args.run.text.now now c.loop-found.invariant.ms c.loop-found.invariant.has new c.in_ok-found.found
    (subst (λ item. Advances now (Some item) new) c.in_ok-found.was c.in-Some.ensures.steps)

pub returns-in_err-write_match-clause-first : goal.returns-in_err-write_match-clause-first
returns-in_err-write_match-clause-first g c =
    let r = c.args.writer.searcher.now.regex.now in
    let shown = c.args.writer.show.shown in
    let p = line_paint_of c.args.writer.show.paint in
    let prefix = text_of c.args.writer.prefix in
    let run = run_of c.args.run in
    let old = g.W.Write.contents c.args.out.now in
    let failure = c.in_err-write_match.field-0.0 in
    passed_on (OrOutput (IsPart r shown p prefix run old (g.W.Write.contents c.write_match.new.out))) c.from_residual-in_err-write_match.result failure
    c.from_residual-in_err-write_match.ensures.1
    (or_output (c.write_match.new.out ≡ c.loop-found.out) _ failure c.in_err-write_match.ensures.untouched
    (λ same. subst (λ out. IsPart r shown p prefix run old (g.W.Write.contents out)) (sym same)
    (first_written r shown p prefix run old c.args.written.now.any c.loop-found.found-iterator c.loop-found.written.any c.loop-found.written.prefix.items
    (g.W.Write.contents c.loop-found.out) c.loop-found.invariant)))

pub returns-in_err-write_match-clause-failed : goal.returns-in_err-write_match-clause-failed
returns-in_err-write_match-clause-failed g c =
    let costly = IsCostly c.args.writer.searcher.now.regex.now in
    let failure = c.in_err-write_match.field-0.0 in
    passed_on (IsSearchFailure costly) c.from_residual-in_err-write_match.result failure c.from_residual-in_err-write_match.ensures.1
    (late_failure costly failure c.in_err-write_match.ensures.late)

pub loop-found-preserved : goal.loop-found-preserved
loop-found-preserved g c =
    let now = c.loop-found.found-iterator in
    let new = c.next.new.self in
    goes_on c.args.writer.searcher.now.regex.now c.args.writer.show.shown (line_paint_of c.args.writer.show.paint) (text_of c.args.writer.prefix) (run_of c.args.run)
    (g.W.Write.contents c.args.out.now) c.args.written.now.any now c.loop-found.written.any c.loop-found.written.prefix.items (g.W.Write.contents c.loop-found.out)
    c.loop-found.invariant new c.in_ok-found.found (subst (λ item. Advances now (Some item) new) c.in_ok-found.was c.in-Some.ensures.steps)
    c.write_match.new.written.any c.write_match.new.written.prefix.items (g.W.Write.contents c.write_match.new.out)
    c.in_ok-write_match.ensures.any c.in_ok-write_match.ensures.prefix c.in_ok-write_match.ensures.written

pub returns-clause-all : goal.returns-clause-all
returns-clause-all g c =
    all_written c.args.writer.searcher.now.regex.now c.args.writer.show.shown (line_paint_of c.args.writer.show.paint) (text_of c.args.writer.prefix) (run_of c.args.run)
    (g.W.Write.contents c.args.out.now) c.args.written.now.any c.loop-found.found-iterator c.loop-found.written.any c.loop-found.written.prefix.items
    (g.W.Write.contents c.loop-found.out) c.loop-found.invariant c.next.new.self c.in-None.ensures.steps
