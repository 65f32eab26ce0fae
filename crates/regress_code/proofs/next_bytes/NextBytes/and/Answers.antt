use Rattle.std.proofs.Common.{subst}
use Rattle.regress_code.specs.NextBytes.{Bounds}
use Rattle.regress_code.proofs.NextBytesLemmas.{common_outside}
use Rattle.regress_code.proofs.next_bytes.NextBytes.and.Goals as goal

pub returns-in-Bytes-Bytes : goal.returns-in-Bytes-Bytes
returns-in-Bytes-Bytes c = λ d text k states first second.
    let pair = c.in-Bytes-Bytes in
    common_outside pair.one pair.two c.common.result c.common.ensures d text k states (subst (λ x. Bounds x d text k states) pair.is-0 first)
    (subst (λ x. Bounds x d text k states) pair.is-1 second)
