use Rattle.std.proofs.Common.{◌∙◌, sym, refl, true, false, length}
use Rattle.regress_leaves.proofs.lemmas.Leaves.{after_by}
use Rattle.regress_leaves.proofs.leaves.bytes_after.Goals as goal

pub returns-then-has_bytes_at : goal.returns-then-has_bytes_at
returns-then-has_bytes_at c = λ s at.
    after_by c.args.bytes.now c.args.written.now s c.args.position (length c.args.written.now) true at refl (sym c.has_bytes_at.ensures ∙ c.if-has_bytes_at.true)

pub returns-else-has_bytes_at : goal.returns-else-has_bytes_at
returns-else-has_bytes_at c = λ s at.
    after_by c.args.bytes.now c.args.written.now s c.args.position (length c.args.written.now) false at refl (sym c.has_bytes_at.ensures ∙ c.if-has_bytes_at.false)
