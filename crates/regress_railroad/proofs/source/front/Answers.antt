use Rattle.std.proofs.Common.{arith, sym}
use Rattle.std.proofs.lemmas.List.{take_all}
use Rattle.regress_railroad.proofs.source.front.Goals as goal

pub returns-in-None : goal.returns-in-None
returns-in-None c = sym (take_all 60 c.args.points.now (omega (arith, c.in-None.ensures.lookup)))
