-- What is known of the error with its position is known of the error without it.
use Rattle.std.proofs.lemmas.Result.{err_from_is_err_and}
use Rattle.regress_tree.specs.declared.ir.node.Regex.{Regex}
use Rattle.regress_lexer.specs.declared.dialect.Dialect.TheVariants.{Regress}
use Rattle.regress_syntax.specs.Meaning.{setting_of}
use Rattle.regress_parse.specs.Rejected.{IsTrueOf, MayExceed}
use Rattle.regress_parse.proofs.FaultLemmas.{rejected_unplaced, reports_unplaced}
use Rattle.regress_parse.proofs.pattern.try_parse.Goals as goal

pub returns-in_err-try_parse_with_position-clause-rejected : goal.returns-in_err-try_parse_with_position-clause-rejected
returns-in_err-try_parse_with_position-clause-rejected c =
    let p = err_from_is_err_and c.from_residual.result c.from_residual.ensures.1 in
    let found = c.in_err-try_parse_with_position in
    rw (p.1, p.2) (rejected_unplaced Regress (setting_of c.args.flags c.args.tables.now) c.args.pattern.now Regex found.field-0.0 found.ensures.rejected)

pub returns-in_err-try_parse_with_position-clause-reported : goal.returns-in_err-try_parse_with_position-clause-reported
returns-in_err-try_parse_with_position-clause-reported c =
    let p = err_from_is_err_and c.from_residual.result c.from_residual.ensures.1 in
    let found = c.in_err-try_parse_with_position in
    let setting = setting_of c.args.flags c.args.tables.now in
    rw (p.1, p.2) (reports_unplaced Regress setting c.args.pattern.now Regex (IsTrueOf setting c.args.pattern.now) found.field-0.0 found.ensures.rejected
    (λ kind position is. is.reported))

pub returns-in_err-try_parse_with_position-clause-limits : goal.returns-in_err-try_parse_with_position-clause-limits
returns-in_err-try_parse_with_position-clause-limits c =
    let p = err_from_is_err_and c.from_residual.result c.from_residual.ensures.1 in
    let found = c.in_err-try_parse_with_position in
    rw (p.1, p.2) (reports_unplaced Regress (setting_of c.args.flags c.args.tables.now) c.args.pattern.now Regex (MayExceed c.args.pattern.now) found.field-0.0
    found.ensures.rejected (λ kind position is. is.limits))
