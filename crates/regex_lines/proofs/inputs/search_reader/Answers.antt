use Rattle.std.proofs.Common.{◌≡◌, subst, sym}
use Rattle.regex_lines.specs.Ending.{AfterFailure}
use Rattle.regex_lines.specs.Searched.{PrintsLines, PrintsPart, SearchesFirst, SearchesPart, named}
use Rattle.regex_options.specs.Plain.{job}
use Rattle.regex_lines.proofs.SearchLemmas.{all_printed, first_printed, lines_then, part_printed, whole}
use Rattle.regex_lines.proofs.lemmas.Failures.{after_less, or_output, passed_on}
use Rattle.regex_lines.proofs.inputs.search_reader.Goals as goal

pub returns-clause-all : goal.returns-clause-all
returns-clause-all g c =
    whole c.args.search.searcher.now.regex.now (job c.args.search.task) (named c.args.search.place) (g.B.Read.remaining c.args.reader.now) (g.W.Write.contents c.args.out.now)
    c.requires (g.W.Write.contents c.search_lines.new.out) (g.W.Write.contents c.write_end.new.out) c.in_ok-selected.selected c.in_ok-selected.ensures.all
    c.in_ok-write_end.ensures.end

pub returns-in_err-selected-clause-first : goal.returns-in_err-selected-clause-first
returns-in_err-selected-clause-first g c =
    let r = c.args.search.searcher.now.regex.now in
    let task = job c.args.search.task in
    let place = named c.args.search.place in
    let input = g.B.Read.remaining c.args.reader.now in
    let old = g.W.Write.contents c.args.out.now in
    let new = g.W.Write.contents c.search_lines.new.out in
    let first = PrintsLines r task place input old new in
    let part = PrintsPart r task place input old new in
    passed_on (AfterFailure first part) c.from_residual.result c.in_err-selected.field-0.0 c.from_residual.ensures.1
    (after_less (SearchesFirst r task place input old new) (SearchesPart r task place input old new) first part (first_printed r task place input old c.requires new)
    (part_printed r task place input old c.requires new) c.in_err-selected.field-0.0 c.in_err-selected.ensures.first)

pub returns-in_err-write_end-clause-first : goal.returns-in_err-write_end-clause-first
returns-in_err-write_end-clause-first g c =
    let r = c.args.search.searcher.now.regex.now in
    let task = job c.args.search.task in
    let place = named c.args.search.place in
    let input = g.B.Read.remaining c.args.reader.now in
    let old = g.W.Write.contents c.args.out.now in
    let new = g.W.Write.contents c.write_end.new.out in
    passed_on (AfterFailure (PrintsLines r task place input old new) (PrintsPart r task place input old new)) c.from_residual-in_err-write_end.result
    c.in_err-write_end.field-0.0 c.from_residual-in_err-write_end.ensures.1
    (lines_then r task place input old new c.in_err-write_end.field-0.0
    (or_output (c.write_end.new.out ≡ c.search_lines.new.out) _ c.in_err-write_end.field-0.0 c.in_err-write_end.ensures.untouched
    (λ same. subst (λ out. PrintsLines r task place input old (g.W.Write.contents out)) (sym same)
    (all_printed r task place input old c.requires (g.W.Write.contents c.search_lines.new.out) c.in_ok-selected.selected c.in_ok-selected.ensures.all))))
