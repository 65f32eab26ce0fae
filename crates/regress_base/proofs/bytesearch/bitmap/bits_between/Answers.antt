use Rattle.regress_base.proofs.CellLemmas.{ones_between}
use Rattle.regress_base.proofs.bytesearch.bitmap.bits_between.Goals as goal

pub returns : goal.returns
returns c = λ k within. ones_between c.args.low c.args.high k c.requires.low c.requires.high within
