use Rattle.std.proofs.Common.{◌≡◌, ◌+◌, sym, ◌∙◌, subst, inl, inr, arith}
use Rattle.regress_base.specs.ByteBitmap.{contains}
use Rattle.regress_base.proofs.CountLemmas.{IsFilled, IsFilled-none, IsFilled-iteration, IsFilled-room, IsFilled-all}
use Rattle.regress_base.proofs.bytesearch.bitmap.ByteBitmap.as_array.Goals as goal
use Rattle.regress_base.proofs.bytesearch.bitmap.ByteBitmap.as_array.Goals.{then-contains, else-contains}

pub loop-b-init : goal.loop-b-init
loop-b-init g c = IsFilled-none (contains c.args.self.now) g.row.N

pub bounds-array-len : goal.bounds-array-len
bounds-array-len g c =
    IsFilled-room (contains c.args.self.now) g.row.N c.loop-b.b c.loop-b.len c.loop-b.array c.loop-b.invariant
    (sym c.contains.ensures ∙ c.if-contains.true) (omega arith) c.requires

pub overflow_add-len : goal.overflow_add-len
overflow_add-len g c =
    let room = IsFilled-room (contains c.args.self.now) g.row.N c.loop-b.b c.loop-b.len c.loop-b.array c.loop-b.invariant
    (sym c.contains.ensures ∙ c.if-contains.true) (omega arith) c.requires in
    omega (arith, g.N.fits)

pub loop-b-preserved : goal.loop-b-preserved
loop-b-preserved g c =
    IsFilled-iteration (contains c.args.self.now) g.row.N c.loop-b.b c.loop-b.len _ c.loop-b.array _ (omega arith) c.requires c.loop-b.invariant
    (elim c.if-contains.branch [
      | then-contains w ↦ inl (sym c.contains.ensures ∙ w.if-contains.true, w.len-is, w.array-is)
      | else-contains w ↦ inr (sym c.contains.ensures ∙ w.if-contains.false, w.len-is, w.array-is)
    ])

pub returns-after-contains : goal.returns-after-contains
returns-after-contains g c =
    let p = contains c.args.self.now in
    let all =
    IsFilled-iteration p g.row.N c.loop-b.b c.loop-b.len c.if-contains.len c.loop-b.array c.if-contains.array (omega arith) c.requires
    c.loop-b.invariant (elim c.if-contains.branch [
      | then-contains w ↦ inl (sym c.contains.ensures ∙ w.if-contains.true, w.len-is, w.array-is)
      | else-contains w ↦ inr (sym c.contains.ensures ∙ w.if-contains.false, w.len-is, w.array-is)
    ]) in
    let e : c.loop-b.b + 1 ≡ 256 = omega arith in
    IsFilled-all p g.row.N c.if-contains.len c.if-contains.array
    (subst (λ n. IsFilled p g.row.N n c.if-contains.len c.if-contains.array) e all)
