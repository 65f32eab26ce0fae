use Rattle.std.proofs.Common.{◌*◌, ◌≤◌, ◌<◌, length, subst, arith}
use Rattle.std.proofs.Math.Nat.{mul-le-mul_right}
use Rattle.std.proofs.lemmas.List.{get_or_read}
use Rattle.regress_tables.specs.Bits.{bits_of}
use Rattle.regress_tables.proofs.BitLemmas.{bits-len}
use Rattle.regress_tables.proofs.repetitions.Repetitions.probe.Goals as goal

pub returns-then-row_bit-clause-stored : goal.returns-then-row_bit-clause-stored
returns-then-row_bit-clause-stored c =
    let t = c.args.table.now in
    let ends = c.args.self.now.ends.items in
    let at = c.args.repeated.repetition in
    let row = c.index-row.result.now in
    let lt : at < length ends = omega (arith, c.if-repeated-len.false, c.len.ensures) in
    let le : row ≤ t.distinct = omega (arith, c.if-row-table.false) in (
      omega (arith, c.if-repeated-table.false),
      subst (λ k. k * (2 * t.width) ≤ length (bits_of t.bits)) (get_or_read ends at row lt c.index-row.ensures 0)
          (omega (arith, mul-le-mul_right (2 * t.width) le, t.filled, bits-len t.bits)),
    )

pub returns-else-row_bit-clause-stored : goal.returns-else-row_bit-clause-stored
returns-else-row_bit-clause-stored c =
    let t = c.args.table.now in
    let ends = c.args.self.now.ends.items in
    let at = c.args.repeated.repetition in
    let row = c.index-row.result.now in
    let lt : at < length ends = omega (arith, c.if-repeated-len.false, c.len.ensures) in
    let le : row ≤ t.distinct = omega (arith, c.if-row-table.false) in (
      omega (arith, c.if-repeated-table.false),
      subst (λ k. k * (2 * t.width) ≤ length (bits_of t.bits)) (get_or_read ends at row lt c.index-row.ensures 0)
          (omega (arith, mul-le-mul_right (2 * t.width) le, t.filled, bits-len t.bits)),
    )
