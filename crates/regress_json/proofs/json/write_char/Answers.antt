use Rattle.std.proofs.Common.{arith}
use Rattle.regress_json.proofs.NumeralLemmas.{decimal-numeral}
use Rattle.regress_json.proofs.json.write_char.Goals as goal

pub returns : goal.returns
returns g c plain ok = rw (decimal-numeral c.args.c (omega arith)) at (c.write.ensures.writes plain ok)
