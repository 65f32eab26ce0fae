use Rattle.regex_command.proofs.TextLineLemmas.{split_lines}
use Rattle.regex_command.proofs.pattern.first_line.Goals as goal

pub returns-in-Some-clause-lines : goal.returns-in-Some-clause-lines
returns-in-Some-clause-lines c = rw c.in-Some.is at (split_lines c.args.text.now c.split_once.result c.split_once.ensures.cases c.requires)

pub returns-in-None-clause-lines : goal.returns-in-None-clause-lines
returns-in-None-clause-lines c = rw c.in-None.is at (split_lines c.args.text.now c.split_once.result c.split_once.ensures.cases c.requires)
