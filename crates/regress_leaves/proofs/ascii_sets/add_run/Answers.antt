use Rattle.std.proofs.Common.{◌<◌, ◌||◌, ◌&&◌, ◌∙◌, ap, nat_le, subst, sym}
use Rattle.regress_base.specs.ByteBitmap.{contains}
use Rattle.regress_base.specs.Intervals.{Bounds}
use Rattle.regress_leaves.proofs.AsciiSetLemmas.{run_added}
use Rattle.regress_leaves.proofs.ascii_sets.add_run.Goals as goal

pub returns : goal.returns
returns c = λ b.
    let old = contains c.args.set.now b in
    run_added (contains c.add_utf8_first_bytes_to_bitmap.new.bitmap b) old c.new.result.first c.new.result.last b
    (subst (λ (iv : Bounds). iv.last < 128) (sym c.new.ensures) c.requires.ascii)
    (c.add_utf8_first_bytes_to_bitmap.ensures b)
    ∙ ap (λ (iv : Bounds). nat_le iv.first b && nat_le b iv.last || old) c.new.ensures
