use Rattle.std.proofs.Common.{inr}
use Rattle.regress_base.specs.ByteBitmap.{contains}
use Rattle.regress_leaves.proofs.StringLemmas.{interval_covered}
use Rattle.regress_leaves.proofs.start.first_bytes_of.Goals as goal

pub returns : goal.returns
returns c = λ x is.
    interval_covered (contains c.add_utf8_first_bytes_to_bitmap.new.bitmap) c.args.interval x
    (λ b between. (c.add_utf8_first_bytes_to_bitmap.ensures b).1 (inr between)) is
