use Rattle.std.proofs.Common.{arith, ◌∙◌, sym, refl, length, true, false}
use Rattle.regress_leaves.proofs.lemmas.Leaves.{before_short, before_by}
use Rattle.regress_leaves.proofs.leaves.bytes_before.Goals as goal

pub returns-then-count-position : goal.returns-then-count-position
returns-then-count-position c = λ s at.
    before_short c.args.bytes.now c.args.written.now s c.args.position (length c.args.written.now) at refl (omega arith)

pub returns-then-has_bytes_at : goal.returns-then-has_bytes_at
returns-then-has_bytes_at c = λ s at.
    before_by c.args.bytes.now c.args.written.now s c.args.position (length c.args.written.now) true at refl (omega arith)
    (sym c.has_bytes_at.ensures ∙ c.if-has_bytes_at.true)

pub returns-else-has_bytes_at : goal.returns-else-has_bytes_at
returns-else-has_bytes_at c = λ s at.
    before_by c.args.bytes.now c.args.written.now s c.args.position (length c.args.written.now) false at refl (omega arith)
    (sym c.has_bytes_at.ensures ∙ c.if-has_bytes_at.false)
