use Rattle.std.proofs.Common.{◌≡◌, true, [], subst, sym}
use Rattle.regress_tree.specs.Matching.{steps}
use Rattle.regress_tree.specs.Reading.{direction_if}
use Rattle.regress_tree.specs.Tree.{anchor, leaf}
use Rattle.regress_code.specs.NextBytes.{IsOutside}
use Rattle.regress_code.proofs.NextBytesLemmas.{line_end_outside}
use Rattle.regress_code.proofs.next_bytes.line_next_bytes.Goals as goal

pub returns-else-backwards : goal.returns-else-backwards
returns-else-backwards c = λ setting text s out.
    let d = direction_if c.args.backwards in
    let set = c.new.result in
    subst (λ k. steps setting text d (leaf (anchor k true)) s ≡ []) (sym c.in-EndOfLine.is)
    (line_end_outside set c.new.ensures setting d text s (subst (λ b. IsOutside (direction_if b) set text s.position) c.if-backwards.false out))
