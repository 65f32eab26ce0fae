use Rattle.regress_base.specs.ByteBitmap.{contains}
use Rattle.regress_base.proofs.FirstByteLemmas.{first_bytes_run, joined}
use Rattle.regress_base.proofs.util.first_bytes.add_first_bytes_of_one_width.Goals as goal

pub returns-then-first-last : goal.returns-then-first-last
returns-then-first-last c = λ b.
    let order = c.if-first-last.true in
    let f = c.utf8_first_byte.result in
    let l = c.utf8_first_byte-then-first-last.result in
    let run = first_bytes_run c.args.first c.args.last f l b order (c.requires.one_width order) c.utf8_first_byte.ensures
    c.utf8_first_byte-then-first-last.ensures in
    joined (contains c.set_run.new.self b) (contains c.args.bitmap.now b) f l b _ (c.set_run.ensures b) run
