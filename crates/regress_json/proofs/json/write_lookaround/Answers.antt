use Rattle.std.proofs.Common.{append_assoc, arith}
use Rattle.std.proofs.Output.{has_written_of_eq}
use Rattle.regress_json.proofs.NumeralLemmas.{decimal-numeral}
use Rattle.regress_json.proofs.json.write_lookaround.Goals as goal

pub returns : goal.returns
returns g c plain ok = has_written_of_eq _ _ _ _ _ (simp append_assoc)
    (rw (decimal-numeral c.args.start (omega arith), decimal-numeral c.args.end (omega arith)) at (c.write.ensures.writes plain ok))
