use Rattle.std.proofs.Common.{◌∷◌, [], length, List, ℕ, ap, ◌∙◌, arith, length-append}
use Rattle.regress_tables.specs.Bits.{bits_of}
use Rattle.regress_tables.proofs.BitLemmas.{bits-len, first_bits, same_bits}
use Rattle.regress_tables.proofs.bits.Bits.make_room.Goals as goal

pub returns-then-self-len-clause-room : goal.returns-then-self-len-clause-room
returns-then-self-len-clause-room c = let b = c.args.self.now in omega (arith, bits-len b, c.if-self-len.true, c.len.ensures)

pub invariant_of-self : goal.invariant_of-self
invariant_of-self c =
    let a = c.args.self.now in
    let b = c.grow.new.self in
    record {
      room = omega (arith, b.room, c.push.ensures.lower_bound);
      small = omega (arith, bits-len a, c.requires, c.if-self-len.false, c.len.ensures, c.grow.ensures.words, c.push.ensures.upper_bound);
    }

pub returns-in_err-push-clause-bits : goal.returns-in_err-push-clause-bits
unfolding bits_of
returns-in_err-push-clause-bits c =
    let b = c.grow.new.self in
    ap (λ (ws : List ℕ). first_bits ws b.len) c.in_err-push.ensures.items ∙ c.grow.ensures.bits

pub returns-clause-bits : goal.returns-clause-bits
unfolding bits_of
returns-clause-bits c =
    let b = c.grow.new.self in
    ap (λ (ws : List ℕ). first_bits ws b.len) c.in_ok-push.ensures.items ∙ same_bits b.words.items 0 b.len b.room ∙ c.grow.ensures.bits

pub returns-clause-room : goal.returns-clause-room
returns-clause-room c =
    let b = c.grow.new.self in
    omega (
      arith,
      bits-len b,
      ap length c.grow.ensures.bits,
      b.room,
      ap length c.in_ok-push.ensures.items,
      length-append b.words.items (0 ∷ []),
    )

pub returns-clause-words : goal.returns-clause-words
returns-clause-words c =
    let a = c.args.self.now in
    let b = c.grow.new.self in
    omega (
      arith,
      bits-len a,
      c.if-self-len.false,
      c.len.ensures,
      c.grow.ensures.words,
      ap length c.in_ok-push.ensures.items,
      length-append b.words.items (0 ∷ []),
    )
