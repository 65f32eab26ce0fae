use Rattle.std.proofs.Common.{◌-◌, bit_and, ap, ◌∙◌}
use Rattle.std.specs.Int.{bit_at}
use Rattle.regress_tables.proofs.WordLemmas.{masked_bit, one_at}
use Rattle.regress_tables.proofs.words.low_bits.Goals as goal

pub returns-then-count-lt64 : goal.returns-then-count-lt64
returns-then-count-lt64 c = λ i lt within.
    ap (λ m. bit_at (bit_and c.args.word (m - 1)) i) (one_at c.args.count c.if-count-lt64.true) ∙ masked_bit c.args.word c.args.count i within
