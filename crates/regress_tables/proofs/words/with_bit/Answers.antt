use Rattle.std.proofs.Common.{w64, Bool, if◌then◌else◌, sym, ap, ◌∙◌}
use Rattle.std.proofs.lemmas.Nat.Bits.{bit_at_set_same, bit_at_set_other, bit_at_clear_same, bit_at_clear_other}
use Rattle.regress_tables.proofs.words.with_bit.Goals as goal

pub returns-then-bit-clause-same : goal.returns-then-bit-clause-same
returns-then-bit-clause-same c = bit_at_set_same w64 c.args.word c.args.at c.requires ∙ ap (λ (b : Bool). if b then 1 else 0) (sym c.if-bit.true)

pub returns-then-bit-clause-other : goal.returns-then-bit-clause-other
returns-then-bit-clause-other c = λ i lt other. bit_at_set_other w64 c.args.word c.args.at c.requires i other

pub returns-else-bit-clause-same : goal.returns-else-bit-clause-same
returns-else-bit-clause-same c = bit_at_clear_same w64 c.args.word c.args.at c.requires ∙ ap (λ (b : Bool). if b then 1 else 0) (sym c.if-bit.false)

pub returns-else-bit-clause-other : goal.returns-else-bit-clause-other
returns-else-bit-clause-other c = λ i lt other. bit_at_clear_other w64 c.args.word c.args.at c.requires i lt other
