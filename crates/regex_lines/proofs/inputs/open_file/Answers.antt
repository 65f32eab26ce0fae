use Rattle.std.proofs.Common.{inr, None, subst}
use Rattle.regex_lines.specs.Searched.{named}
use Rattle.regex_lines.specs.Unread.{IsSkipped, all_unread}
use Rattle.regex_options.specs.Plain.{job}
use Rattle.regex_lines.proofs.SearchLemmas.{lines_then, nothing_printed}
use Rattle.regex_lines.proofs.SkipLemmas.{skipped}
use Rattle.regex_lines.proofs.inputs.open_file.Goals as goal

pub returns-in-Err-clause-all : goal.returns-in-Err-clause-all
returns-in-Err-clause-all g c =
    let r = c.args.search.searcher.now.regex.now in
    let task = job c.args.search.task in
    let place = named c.args.search.place in
    let out = g.W.Write.contents c.args.out.now in
    (skipped ⊥ r task place None out out (all_unread c.args.unread.now) (all_unread c.skip.new.unread) c.read_failure.result c.skip.result
    (lines_then r task place None out out c.read_failure.result (inr (nothing_printed r task place None out))) c.read_failure.ensures.search
    (subst (λ name. IsSkipped c.read_failure.result name (all_unread c.args.unread.now) (all_unread c.skip.new.unread) c.skip.result) c.name-name.ensures c.skip.ensures)).all

pub returns-in-Err-clause-first : goal.returns-in-Err-clause-first
returns-in-Err-clause-first g c =
    let r = c.args.search.searcher.now.regex.now in
    let task = job c.args.search.task in
    let place = named c.args.search.place in
    let out = g.W.Write.contents c.args.out.now in
    (skipped ⊥ r task place None out out (all_unread c.args.unread.now) (all_unread c.skip.new.unread) c.read_failure.result c.skip.result
    (lines_then r task place None out out c.read_failure.result (inr (nothing_printed r task place None out))) c.read_failure.ensures.search
    (subst (λ name. IsSkipped c.read_failure.result name (all_unread c.args.unread.now) (all_unread c.skip.new.unread) c.skip.result) c.name-name.ensures c.skip.ensures)).first
