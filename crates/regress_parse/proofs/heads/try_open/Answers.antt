use Rattle.regress_lexer.specs.Source.{opening}
use Rattle.regress_lexer.specs.Views.{source}
use Rattle.regress_parse.proofs.LengthLemmas.{lengths-after}
use Rattle.regress_parse.proofs.heads.try_open.Goals as goal

pub returns-clause-lengths : goal.returns-clause-lengths
returns-clause-lengths c =
    lengths-after opening (source c.args.cursor.now) (source c.try_consume.new.self) c.try_consume.result c.try_consume.ensures.found c.try_consume.ensures.moves
