use Rattle.std.proofs.Common.{arith}
use Rattle.regress_tables.specs.Bits.{bits_of}
use Rattle.regress_tables.proofs.BitLemmas.{bits-len, fewer_bits}
use Rattle.regress_tables.proofs.bits.Bits.truncate.Goals as goal

pub invariant_of-self : goal.invariant_of-self
invariant_of-self c = let b = c.args.self.now in record { room = omega (arith, bits-len b, c.requires, b.room); small = b.small }

pub returns-clause-bits : goal.returns-clause-bits
unfolding bits_of
returns-clause-bits c = let b = c.args.self.now in fewer_bits b.words.items b.len c.args.count (omega (arith, bits-len b, c.requires))
