use Rattle.std.proofs.Common.{None, subst}
use Rattle.regex_lines.specs.Ending.{IsCostly}
use Rattle.regex_lines.specs.Searched.{named}
use Rattle.regex_lines.specs.Unread.{IsSkipped, all_unread}
use Rattle.regex_options.specs.Plain.{job}
use Rattle.regex_lines.proofs.SearchLemmas.{lines_then}
use Rattle.regex_lines.proofs.SkipLemmas.{skipped}
use Rattle.regex_lines.proofs.inputs.rewrite_next.Goals as goal

pub returns-in-Err-clause-first : goal.returns-in-Err-clause-first
returns-in-Err-clause-first g c =
    let r = c.args.search.searcher.now.regex.now in
    let task = job c.args.search.task in
    let place = named c.args.search.place in
    let before = g.W.Write.contents c.args.out.now in
    let after = g.W.Write.contents c.rewrite_file.new.out in
    let old = all_unread c.args.unread.now in
    let new = all_unread c.skip.new.unread in
    let failure = c.in-Err.failure in
    (skipped (IsCostly r) r task place None before after old new failure c.skip.result (lines_then r task place None before after failure c.in-Err.ensures.first)
    c.in-Err.ensures.failed (subst (λ name. IsSkipped failure name old new c.skip.result) c.name.ensures c.skip.ensures)).first
