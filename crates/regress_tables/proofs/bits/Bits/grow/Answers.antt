use Rattle.std.proofs.Common.{List, ℕ, length, ap, arith}
use Rattle.regress_tables.specs.Bits.{bits_of}
use Rattle.regress_tables.proofs.BitLemmas.{first_bits}
use Rattle.regress_tables.proofs.bits.Bits.grow.Goals as goal

pub returns-clause-bits : goal.returns-clause-bits
unfolding bits_of
returns-clause-bits c = ap (λ (ws : List ℕ). first_bits ws c.args.self.now.len) c.reserve_exact.ensures.items

pub returns-clause-words : goal.returns-clause-words
returns-clause-words c = ap length c.reserve_exact.ensures.items

pub invariant_of-self : goal.invariant_of-self
invariant_of-self c =
    let b = c.args.self.now in
    record { room = omega (arith, b.room, ap length c.reserve_exact.ensures.items); small = omega (arith, b.small, ap length c.reserve_exact.ensures.items) }
