use Rattle.std.proofs.Common.{rules}
use Rattle.regress_lexer.specs.Escapes.{escape_at}
use Rattle.regress_lexer.proofs.lemmas.InRange.{value_in_range}
use Rattle.regress_lexer.proofs.escape.parse_escape.Goals as goal

pub returns-in-None-clause-in_range : goal.returns-in-None-clause-in_range
unfolding escape_at
returns-in-None-clause-in_range c =
    λ all. value_in_range (λ rest. rest.now) c.args.unicode c.args.source.now c.read_other.result all (search rules)
