use Rattle.std.proofs.Common.{◌≡◌, ◌+◌, ◌-◌, ◌*◌, ◌<◌, ◌==◌, false, get_or, inl, inr, sym, ap, ◌∙◌, arith}
use Rattle.std.proofs.lemmas.Bool.{cases_lt}
use Rattle.std.specs.Int.{bit_at}
use Rattle.regress_tables.specs.Bits.{bits_of}
use Rattle.regress_tables.proofs.table.Table.are_equal.Goals as goal

pub loop-k-preserved : goal.loop-k-preserved
loop-k-preserved c = λ j lt inside.
    let t = c.args.self.now in
    let before = 64 * c.loop-k.k in
    elim (cases_lt j before) [
      | inl old ↦ c.loop-k.invariant j old inside
      | inr new ↦
          let i = j - before in
          let small : i < 64 = omega (arith, lt, new) in
          let counted : i < 2 * t.width - before = omega (arith, inside, new) in
          let a_is : c.args.a + j ≡ c.args.a + before + i = omega (arith, new) in
          let b_is : c.args.b + j ≡ c.args.b + before + i = omega (arith, new) in
          ap (λ k. get_or (bits_of t.bits) k false) a_is
          ∙ c.word_at.ensures i small (omega (arith, c.requires.a, inside, new))
          ∙ ap (λ x. x == 1) (sym (c.low_bits-x.ensures i small counted) ∙ ap (λ w. bit_at w i) c.if-x-y.false ∙ c.low_bits-y.ensures i small counted)
          ∙ sym (c.word_at-in-loop-k.ensures i small (omega (arith, c.requires.b, inside, new)))
          ∙ ap (λ k. get_or (bits_of t.bits) k false) (sym b_is)
    ]
