use Rattle.std.proofs.Common.{refl, append_assoc, arith}
use Rattle.std.proofs.Output.{has_written_of_eq}
use Rattle.regress_json.proofs.NumeralLemmas.{decimal-numeral}
use Rattle.regress_json.proofs.json.write_repeat.Goals as goal

pub returns-in-Some : goal.returns-in-Some
returns-in-Some g c plain ok = has_written_of_eq _ _ _ _ _ (simp append_assoc (rw c.in-Some.is refl))
    (rw (decimal-numeral c.args.quant.now.min (omega arith), decimal-numeral c.in-Some.max (omega arith)) at (c.write.ensures.writes plain ok))

pub returns-in-None : goal.returns-in-None
returns-in-None g c plain ok = has_written_of_eq _ _ _ _ _ (simp append_assoc (rw c.in-None.is refl))
    (rw (decimal-numeral c.args.quant.now.min (omega arith)) at (c.write-in-None.ensures.writes plain ok))
