use Rattle.std.proofs.Common.{◌∙◌, List, ap, map}
use Rattle.regress.specs.Compiled.{match_of}
use Rattle.regress.specs.declared.found.Match.{Match}
use Rattle.regex_lines.specs.Ending.{search_failure, setting_in}
use Rattle.regex_command.specs.Patterns.{MayFailToFind, range_of}
use Rattle.regex_command.proofs.CostLemmas.{costly_find, found_large}
use Rattle.regex_lines.proofs.lemmas.Failures.{passed_on}
use Rattle.regex_command.proofs.explaining.found_in.Goals as goal

pub returns-clause-ranges : goal.returns-clause-ranges
returns-clause-ranges c = (
  c.in_ok-regex.regex,
  c.in_ok-regex.ensures.own.compiled,
  (
    map match_of c.in_ok-matches.matches.items,
    c.in_ok-matches.ensures.all,
    c.in_ok-ranges.ensures ∙ ap (λ (ms : List Match). map range_of (map match_of ms)) c.deref.ensures.value,
  ),
)

pub returns-in_err-regex-clause-due : goal.returns-in_err-regex-clause-due
returns-in_err-regex-clause-due c =
    let dialect = c.args.pattern.dialect in
    let setting = setting_in dialect c.args.pattern.flags in
    let source = c.args.pattern.text.now in
    let failure = c.in_err-regex.field-0.0 in
    passed_on (MayFailToFind dialect setting source) c.from_residual.result failure c.from_residual.ensures.1
    (found_large dialect setting source c.requires failure c.in_err-regex.ensures.failed)

pub returns-in_err-matches-clause-due : goal.returns-in_err-matches-clause-due
returns-in_err-matches-clause-due c =
    let dialect = c.args.pattern.dialect in
    let setting = setting_in dialect c.args.pattern.flags in
    let source = c.args.pattern.text.now in
    let error = c.in_err-matches.field-0.0 in
    passed_on (MayFailToFind dialect setting source) c.from_residual-in_err-matches.result (search_failure error) c.from_residual-in_err-matches.ensures.1
    (costly_find c.in_ok-regex.regex c.args.text.now dialect setting source c.in_ok-regex.ensures.own error
    c.in_err-matches.ensures.linear c.in_err-matches.ensures.costs)
