use Rattle.std.proofs.Common.{arith}
use Rattle.regress_base.proofs.Utf8Lemmas.{shift_or}
use Rattle.regress_base.proofs.util.utf8.continued.Goals as goal

pub returns : goal.returns
returns c = let joined = shift_or c.args.bits c.low_bits.result (omega arith) (omega arith) in omega arith
