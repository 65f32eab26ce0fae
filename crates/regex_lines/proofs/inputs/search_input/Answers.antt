use Rattle.std.proofs.Common.{subst}
use Rattle.regex_lines.specs.Ending.{IsCostly}
use Rattle.regex_lines.specs.Searched.{named}
use Rattle.regex_lines.specs.Unread.{IsSkipped, all_unread}
use Rattle.regex_options.specs.Plain.{job}
use Rattle.regex_lines.proofs.SkipLemmas.{skipped}
use Rattle.regex_lines.proofs.inputs.search_input.Goals as goal

pub returns-in-Err-clause-first : goal.returns-in-Err-clause-first
returns-in-Err-clause-first g c =
    let r = c.args.search.searcher.now.regex.now in
    let old = all_unread c.args.unread.now in
    let new = all_unread c.skip.new.unread in
    let failure = c.in-Err.failure in
    (skipped (IsCostly r) r (job c.args.search.task) (named c.args.search.place) (g.I.Read.remaining c.args.input) (g.W.Write.contents c.args.out.now)
    (g.W.Write.contents c.read_input.new.out) old new failure c.skip.result c.in-Err.ensures.first c.in-Err.ensures.failed
    (subst (λ name. IsSkipped failure name old new c.skip.result) c.name.ensures c.skip.ensures)).first
