use Rattle.std.proofs.Common.{◌∙◌, ap, inr, subst, sym}
use Rattle.std.specs.Prelude.{is_some}
use Rattle.regex_lines.specs.Ending.{IsCostly}
use Rattle.regex_lines.specs.Left.{left_of}
use Rattle.regex_lines.specs.Searched.{named}
use Rattle.regex_lines.specs.Unread.{IsSkipped, all_unread}
use Rattle.regex_options.specs.Plain.{job}
use Rattle.regex_lines.proofs.SearchLemmas.{lines_then, nothing_printed}
use Rattle.regex_lines.proofs.SkipLemmas.{skipped}
use Rattle.regex_lines.proofs.inputs.search_left.Goals as goal

pub search_taken-requires : goal.search_taken-requires
search_taken-requires g c = sym c.in_place.ensures ∙ ap is_some c.in-None.is

pub returns-in-Some-clause-all : goal.returns-in-Some-clause-all
returns-in-Some-clause-all g c =
    let r = c.args.search.searcher.now.regex.now in
    let task = job c.args.search.task in
    let place = named c.args.search.place in
    let input = left_of g.I.Read.remaining c.args.left in
    let out = g.W.Write.contents c.args.out.now in
    (skipped (IsCostly r) r task place input out out (all_unread c.args.unread.now) (all_unread c.skip.new.unread) c.unwritten.result c.skip.result
    (lines_then r task place input out out c.unwritten.result (inr (nothing_printed r task place input out))) c.unwritten.ensures
    (subst (λ name. IsSkipped c.unwritten.result name (all_unread c.args.unread.now) (all_unread c.skip.new.unread) c.skip.result) c.name-name.ensures c.skip.ensures)).all

pub returns-in-Some-clause-first : goal.returns-in-Some-clause-first
returns-in-Some-clause-first g c =
    let r = c.args.search.searcher.now.regex.now in
    let task = job c.args.search.task in
    let place = named c.args.search.place in
    let input = left_of g.I.Read.remaining c.args.left in
    let out = g.W.Write.contents c.args.out.now in
    (skipped (IsCostly r) r task place input out out (all_unread c.args.unread.now) (all_unread c.skip.new.unread) c.unwritten.result c.skip.result
    (lines_then r task place input out out c.unwritten.result (inr (nothing_printed r task place input out))) c.unwritten.ensures
    (subst (λ name. IsSkipped c.unwritten.result name (all_unread c.args.unread.now) (all_unread c.skip.new.unread) c.skip.result) c.name-name.ensures c.skip.ensures)).first
