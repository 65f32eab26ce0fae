use Rattle.std.proofs.Common.{◌≡◌, ◌*◌, ◌<◌, ◌/◌, ◌++◌, ◌∷◌, [], get_or, length, ap, ◌∙◌, arith}
use Rattle.std.proofs.lemmas.List.{get_or_read, length-set}
use Rattle.std.specs.Int.{bit_at}
use Rattle.regress_tables.specs.Bits.{bits_of}
use Rattle.regress_tables.specs.declared.bits.Bits.{Bits}
use Rattle.regress_tables.proofs.BitLemmas.{bits-len, push_bit}
use Rattle.regress_tables.proofs.bits.Bits.push.Goals as goal

-- the word of the next bit is there
room : (b b' : Bits) → bits_of b' ≡ bits_of b → length (bits_of b) < 64 * length b'.words.items → b'.len < 64 * length b'.words.items
room b b' bits lt = omega (arith, bits-len b', ap length bits, lt)

pub index-requires : goal.index-requires
index-requires c = omega (arith, room c.args.self.now c.make_room.new.self c.in_ok-make_room.ensures.bits c.in_ok-make_room.ensures.room)

pub index_mut-requires : goal.index_mut-requires
index_mut-requires c = omega (arith, room c.args.self.now c.make_room.new.self c.in_ok-make_room.ensures.bits c.in_ok-make_room.ensures.room)

pub invariant_of-self : goal.invariant_of-self
invariant_of-self c =
    let b = c.make_room.new.self in
    let same = length-set b.words.items (b.len / 64) c.with_bit.result in
    record {
      room = omega (arith, room c.args.self.now b c.in_ok-make_room.ensures.bits c.in_ok-make_room.ensures.room, same);
      small = omega (arith, b.small, same);
    }

pub returns-clause-bits : goal.returns-clause-bits
unfolding bits_of
returns-clause-bits c =
    let b = c.make_room.new.self in
    let words = b.words.items in
    let word = c.with_bit.result in
    let lt = room c.args.self.now b c.in_ok-make_room.ensures.bits c.in_ok-make_room.ensures.room in
    let read : c.index.result.now ≡ get_or words (b.len / 64) 0 = get_or_read words (b.len / 64) _ (omega (arith, lt)) c.index.ensures 0 in
    push_bit words word b.len c.args.bit lt c.with_bit.ensures.same (λ i less other. c.with_bit.ensures.other i less other ∙ ap (λ w. bit_at w i) read)
    ∙ ap (λ xs. xs ++ c.args.bit ∷ []) c.in_ok-make_room.ensures.bits
