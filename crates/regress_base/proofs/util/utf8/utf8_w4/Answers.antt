use Rattle.std.proofs.Common.{arith}
use Rattle.regress_base.proofs.Utf8Lemmas.{decode_four}
use Rattle.regress_base.proofs.util.utf8.utf8_w4.Goals as goal

pub returns-clause-decodes : goal.returns-clause-decodes
returns-clause-decodes c = λ n encoded.
    let decoded = decode_four n c.args.b0 c.args.b1 c.args.b2 c.args.b3 c.requires.lead.1 encoded in
    omega arith
