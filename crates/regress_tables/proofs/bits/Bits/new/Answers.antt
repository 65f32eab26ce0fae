use Rattle.std.proofs.Common.{refl}
use Rattle.regress_tables.specs.Bits.{bits_of}
use Rattle.regress_tables.proofs.bits.Bits.new.Goals as goal

pub returns-clause-empty : goal.returns-clause-empty
unfolding bits_of
returns-clause-empty c = refl
