use Rattle.std.proofs.Common.{rules, arith, ap, sym, subst, length}
use Rattle.std.specs.Str.{IsUtf8}
use Rattle.std.proofs.lemmas.Str.{IsUtf8-encode, length-encode, len_utf8_bounds}
use Rattle.regress_prefilter.specs.OneCharacter.{sole_character}
use Rattle.regress_prefilter.proofs.lemmas.OneCharacter.{sole-encodes}
use Rattle.regress_leaves.proofs.lemmas.Leaves.{none_of}
use Rattle.regress_leaves.proofs.leaves.sole_character.Goals as goal

pub returns-then-bytes-gt4 : goal.returns-then-bytes-gt4
returns-then-bytes-gt4 c =
    let written = c.args.bytes.now in
    sym (none_of (sole_character written) (λ x e.
    let parts = sole-encodes written x e in
    omega (arith, ap length parts.1, length-encode x, (len_utf8_bounds x).1, c.if-bytes-gt4.true)))

pub returns-in_err-text : goal.returns-in_err-text
returns-in_err-text c =
    let written = c.args.bytes.now in
    rw c.from_residual.ensures
    (sym (none_of (sole_character written) (λ x e.
    let parts = sole-encodes written x e in
    search (rules, subst IsUtf8 (sym parts.1) (IsUtf8-encode x parts.0)))))
