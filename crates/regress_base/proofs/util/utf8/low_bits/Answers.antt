use Rattle.std.proofs.Common.{◌-◌, ◌^◌, bit_and, ap, ◌∙◌, arith}
use Rattle.std.proofs.lemmas.Nat.{and_mask, one_shl}
use Rattle.regress_base.proofs.util.utf8.low_bits.Goals as goal

pub returns : goal.returns
returns c =
    ap (λ m. bit_and c.from.result (m - 1)) (one_shl c.args.count 32 (omega arith))
    ∙ ap (λ b. bit_and b (2 ^ c.args.count - 1)) c.from.ensures ∙ and_mask c.args.b c.args.count
