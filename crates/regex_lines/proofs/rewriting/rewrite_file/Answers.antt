use Rattle.std.proofs.Common.{◌≡◌, inr, None, subst, sym}
use Rattle.regex_lines.specs.Ending.{OrOutput}
use Rattle.regex_lines.specs.Searched.{PrintsLines, named}
use Rattle.regex_options.specs.Plain.{job}
use Rattle.regex_lines.proofs.SearchLemmas.{nothing_printed, rewritten}
use Rattle.regex_lines.proofs.lemmas.Failures.{or_output, passed_on}
use Rattle.regex_lines.proofs.rewriting.rewrite_file.Goals as goal

pub returns-clause-all : goal.returns-clause-all
returns-clause-all g c =
    rewritten c.args.search.searcher.now.regex.now (job c.args.search.task) (named c.args.search.place) None (g.W.Write.contents c.args.out.now)
    c.requires (g.W.Write.contents c.write_end.new.out) c.in_ok-selected.selected c.in_ok-selected.ensures.lines c.in_ok-write_end.ensures.end

pub returns-in_err-selected-clause-first : goal.returns-in_err-selected-clause-first
returns-in_err-selected-clause-first g c =
    let r = c.args.search.searcher.now.regex.now in
    let task = job c.args.search.task in
    let place = named c.args.search.place in
    let out = g.W.Write.contents c.args.out.now in
    passed_on (OrOutput (PrintsLines r task place None out out)) c.from_residual.result c.in_err-selected.field-0.0 c.from_residual.ensures.1
    (inr (nothing_printed r task place None out))

pub returns-in_err-write_end-clause-first : goal.returns-in_err-write_end-clause-first
returns-in_err-write_end-clause-first g c =
    let r = c.args.search.searcher.now.regex.now in
    let task = job c.args.search.task in
    let place = named c.args.search.place in
    let old = g.W.Write.contents c.args.out.now in
    passed_on (OrOutput (PrintsLines r task place None old (g.W.Write.contents c.write_end.new.out))) c.from_residual-in_err-write_end.result
    c.in_err-write_end.field-0.0 c.from_residual-in_err-write_end.ensures.1
    (or_output (c.write_end.new.out ≡ c.args.out.now) _ c.in_err-write_end.field-0.0 c.in_err-write_end.ensures.untouched
    (λ same. subst (λ out. PrintsLines r task place None old (g.W.Write.contents out)) (sym same) (nothing_printed r task place None old)))
