use Rattle.std.proofs.Common.{arith}
use Rattle.regress_base.proofs.Utf8Lemmas.{decode_two}
use Rattle.regress_base.proofs.util.utf8.utf8_w2.Goals as goal

pub returns-clause-decodes : goal.returns-clause-decodes
returns-clause-decodes c = λ n encoded.
    let decoded = decode_two n c.args.b0 c.args.b1 encoded in
    omega arith
