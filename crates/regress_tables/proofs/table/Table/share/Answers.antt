use Rattle.std.proofs.Common.{◌≡◌, ◌+◌, ◌*◌, ◌<◌, ◌≤◌, [], ◌∷◌, All, length, refl, sym, ap, ◌∙◌, subst, arith, length-append}
use Rattle.std.proofs.Math.Nat.{mul-le-mul_right}
use Rattle.std.proofs.lemmas.List.{length-take-le}
use Rattle.regress_tables.specs.Bits.{bits_of}
use Rattle.regress_tables.specs.Numbers.{numbers_of}
use Rattle.regress_tables.proofs.BitLemmas.{bits-len}
use Rattle.regress_tables.proofs.RowLemmas.{evaluated-share, numbers-more}
use Rattle.regress_tables.proofs.table.Table.share.Goals as goal

pub truncate-requires : goal.truncate-requires
truncate-requires c =
    let t = c.args.self.now in
    let most : c.max-self.result ≤ t.distinct + 1 = omega (arith, c.max-self.ensures, c.requires.number) in
    omega (arith, c.requires.one, mul-le-mul_right (2 * t.width) most)

pub invariant_of-self-2 : goal.invariant_of-self-2
invariant_of-self-2 c =
    let t = c.args.self.now in
    let d = c.max-self.result in
    let bits = c.truncate.new.self in
    let most : d ≤ t.distinct + 1 = omega (arith, c.max-self.ensures, c.requires.number) in
    let within : d * (2 * t.width) ≤ length (bits_of t.bits) = omega (arith, c.requires.one, mul-le-mul_right (2 * t.width) most) in
    let long : length (bits_of bits) ≡ d * (2 * t.width) = ap length c.truncate.ensures.bits ∙ length-take-le (d * (2 * t.width)) (bits_of t.bits) within in
    let long-rows : length (numbers_of c.push.new.self) ≡ length (numbers_of t.rows) + 1 =
    ap length c.in_ok-push.ensures.added ∙ length-append (numbers_of t.rows) (c.args.number ∷ []) in
    record {
      short = t.short;
      small = t.small;
      words = omega (arith, t.words, c.truncate.ensures.words);
      numbers = subst (All (λ k. k < d)) (sym c.in_ok-push.ensures.added)
          (numbers-more (numbers_of t.rows) c.args.number t.distinct d t.numbers (omega (arith, c.max-self.ensures)) (omega (arith, c.max-self.ensures)));
      filled = omega (arith, long, bits-len bits);
      few = omega (arith, c.max-self.ensures, c.requires.number, t.few, long-rows);
      inside = omega (arith, c.requires.room, long-rows);
      narrow = omega (arith, c.max-self.ensures, c.requires.number, c.requires.narrow);
    }

pub returns-clause-evaluated : goal.returns-clause-evaluated
returns-clause-evaluated c =
    evaluated-share c.args.self.now _ c.args.number (record { width = refl; length = refl; backwards = refl }) c.in_ok-push.ensures.added c.truncate.ensures.bits
    (omega (arith, c.max-self.ensures)) (omega (arith, c.max-self.ensures, c.requires.number)) (omega (arith, c.max-self.ensures)) c.requires.one c.requires.same
