use Rattle.std.proofs.Common.{inl}
use Rattle.regex_lines.specs.Ending.{IsCostly, IsLate, IsOutputFailure, IsInputFailure, OrOutput}
use Rattle.regex_lines.proofs.lemmas.Failures.{if_err_by, late_failure, of_input}
use Rattle.regex_lines.proofs.searching.write_end.Goals as goal

pub returns-clause-failed : goal.returns-clause-failed
returns-clause-failed g c =
    let costly = IsCostly c.args.search.searcher.now.regex.now in
    if_err_by IsLate (IsInputFailure costly) c.write_bytes.result (λ failure h. of_input costly failure (late_failure costly failure h)) c.write_bytes.ensures.late

pub returns-clause-untouched : goal.returns-clause-untouched
returns-clause-untouched g c = if_err_by IsOutputFailure (OrOutput _) c.write_bytes.result (λ failure h. inl h) c.write_bytes.ensures.output
