use Rattle.std.proofs.Common.{arith}
use Rattle.regress_base.proofs.Utf8Lemmas.{decode_three}
use Rattle.regress_base.proofs.util.utf8.utf8_w3.Goals as goal

pub returns-clause-decodes : goal.returns-clause-decodes
returns-clause-decodes c = λ n encoded.
    let decoded = decode_three n c.args.b0 c.args.b1 c.args.b2 encoded in
    omega arith
