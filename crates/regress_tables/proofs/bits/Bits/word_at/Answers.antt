use Rattle.std.proofs.Common.{◌+◌, ◌-◌, ◌<◌, ◌/◌, ◌%◌, ◌==◌, inl, inr, sym, ap, ◌∙◌, arith}
use Rattle.std.proofs.lemmas.Bool.{cases_lt}
use Rattle.std.proofs.lemmas.List.{get_or_read}
use Rattle.std.proofs.lemmas.Nat.{shr-shr}
use Rattle.std.specs.Int.{bit_at}
use Rattle.regress_tables.proofs.BitLemmas.{bits-len}
use Rattle.regress_tables.proofs.WordLemmas.{bit-far, bit-in, bit-near}
use Rattle.regress_tables.proofs.bits.Bits.word_at.Goals as goal
use Rattle.regress_tables.proofs.bits.Bits.word_at.Goals.{then-at-eq0-via-then-at-eq0, then-at-eq0-via-else-at-eq0+then-word-len}

pub index-low-requires : goal.index-low-requires
index-low-requires c = omega (arith, bits-len c.args.self.now, c.args.self.now.room, c.requires)

pub returns-then-at-eq0 : goal.returns-then-at-eq0
returns-then-at-eq0 c = λ i lt within.
    let b = c.args.self.now in
    let index = c.args.index in
    let in_list : index + i < b.len = omega (arith, within, bits-len b) in
    let near : index % 64 + i < 64 =
    elim c.then-at-eq0.branch [
      | then-at-eq0-via-then-at-eq0 w ↦ omega (arith, lt, w.if-at-eq0.true)
      | then-at-eq0-via-else-at-eq0+then-word-len w ↦ omega (arith, in_list, b.room, w.len.ensures, w.if-word-len.true)
    ] in
    bit-in b (index + i) in_list ∙ bit-near b.words.items index i near
    ∙ ap (λ w. bit_at w (index % 64 + i) == 1) (sym (get_or_read b.words.items (index / 64) _ (omega (arith, in_list, b.room)) c.index-low.ensures 0))
    ∙ ap (λ x. x % 2 == 1) (sym (shr-shr c.index-low.result.now (index % 64) i))

pub returns : goal.returns
returns c = λ i lt within.
    let b = c.args.self.now in
    let index = c.args.index in
    let in_list : index + i < b.len = omega (arith, within, bits-len b) in
    bit-in b (index + i) in_list
    ∙ elim (cases_lt (index % 64 + i) 64) [
      | inl near ↦
          bit-near b.words.items index i near
          ∙ ap (λ w. bit_at w (index % 64 + i) == 1) (sym (get_or_read b.words.items (index / 64) _ (omega (arith, in_list, b.room)) c.index-low.ensures 0))
          ∙ ap (λ x. x == 1) (sym (c.joined.ensures.near i near))
      | inr far ↦
          bit-far b.words.items index i lt far
          ∙ ap (λ w. bit_at w (index % 64 + i - 64) == 1)
          (sym (get_or_read b.words.items (index / 64 + 1) _ (omega (arith, c.len.ensures, c.if-word-len.false)) c.index.ensures 0))
          ∙ ap (λ x. x == 1) (sym (c.joined.ensures.far i lt far))
    ]
