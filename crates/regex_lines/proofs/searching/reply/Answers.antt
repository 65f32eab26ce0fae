use Rattle.regex_lines.specs.Ending.{IsCostly, IsInputFailure, search_failure}
use Rattle.regex_lines.proofs.CostLemmas.{searched}
use Rattle.regex_lines.proofs.lemmas.Failures.{passed_on}
use Rattle.regex_lines.proofs.searching.reply.Goals as goal

pub returns-in_err-reply_to-clause-failed : goal.returns-in_err-reply_to-clause-failed
returns-in_err-reply_to-clause-failed c =
    let costly = IsCostly c.args.search.searcher.now.regex.now in
    let error = c.in_err-reply_to.field-0.0 in
    passed_on (IsInputFailure costly) c.from_residual.result (search_failure error) c.from_residual.ensures.1
    (searched costly error c.in_err-reply_to.ensures.failed)
