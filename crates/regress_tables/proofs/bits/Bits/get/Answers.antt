use Rattle.std.proofs.Common.{◌<◌, ◌/◌, ◌%◌, ◌==◌, false, sym, ap, ◌∙◌, arith}
use Rattle.std.proofs.lemmas.List.{get_or_read}
use Rattle.std.proofs.lemmas.Nat.Bits.{shr_and_one}
use Rattle.std.specs.Int.{bit_at}
use Rattle.regress_tables.specs.Bits.{bits_of}
use Rattle.regress_tables.proofs.BitLemmas.{length-first_bits, get_or-first_bits}
use Rattle.regress_tables.proofs.bits.Bits.get.Goals as goal

pub index-requires : goal.index-requires
unfolding bits_of
index-requires c =
    let b = c.args.self.now in
    omega (arith, length-first_bits b.words.items b.len, b.room, c.requires)

pub returns : goal.returns
unfolding bits_of
returns c =
    let b = c.args.self.now in
    let i = c.args.index in
    let lt : i < b.len = omega (arith, length-first_bits b.words.items b.len, c.requires) in
    ap (λ x. x == 1) (shr_and_one c.index.result.now (i % 64))
    ∙ ap (λ w. bit_at w (i % 64) == 1) (get_or_read b.words.items (i / 64) _ (omega (arith, lt, b.room)) c.index.ensures 0)
    ∙ sym (get_or-first_bits b.words.items b.len i false lt)
