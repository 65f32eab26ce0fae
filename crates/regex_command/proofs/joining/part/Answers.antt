use Rattle.regex_command.proofs.PatternLemmas.{escaped_part}
use Rattle.regex_command.proofs.joining.part.Goals as goal

pub returns-then-fixed : goal.returns-then-fixed
returns-then-fixed c = escaped_part c.args.fixed c.args.pattern.now c.escape.result c.if-fixed.true c.escape.ensures
