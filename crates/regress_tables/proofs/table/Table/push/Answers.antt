use Rattle.std.proofs.Common.{arith}
use Rattle.regress_tables.specs.Bits.{bits_of}
use Rattle.regress_tables.proofs.BitLemmas.{bits-len}
use Rattle.regress_tables.proofs.RowLemmas.{bits-few, not-fewer}
use Rattle.regress_tables.proofs.table.Table.push.Goals as goal

pub push-requires : goal.push-requires
push-requires c = let t = c.args.self.now in omega (arith, bits-few t, c.requires, t.small)

pub invariant_of-self : goal.invariant_of-self
invariant_of-self c =
    let t = c.args.self.now in
    let u = c.push.new.self in
    record {
      short = t.short;
      small = t.small;
      words = omega (arith, t.words, c.push.ensures.words, bits-few t, c.requires);
      numbers = t.numbers;
      filled =
          omega (
            arith,
            t.filled,
            bits-len t.bits,
            bits-len u,
            not-fewer c.push.result (bits_of t.bits) (bits_of u) c.args.bit c.push.ensures.bits c.push.ensures.kept,
          );
      few = t.few;
      inside = t.inside;
      narrow = t.narrow;
    }
