use Rattle.std.proofs.Common.{sym}
use Rattle.regress_tables.specs.Bits.{bits_of}
use Rattle.regress_tables.proofs.BitLemmas.{length-first_bits}
use Rattle.regress_tables.proofs.bits.Bits.len.Goals as goal

pub returns : goal.returns
unfolding bits_of
returns c = sym (length-first_bits c.args.self.now.words.items c.args.self.now.len)
