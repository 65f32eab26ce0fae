use Rattle.std.proofs.Common.{ltb}
use Rattle.std.proofs.lemmas.Bool.{and_right}
use Rattle.regress_base.specs.ByteBitmap.{contains}
use Rattle.regress_base.proofs.CellLemmas.{bit_in-zeros}
use Rattle.regress_base.proofs.bytesearch.bitmap.ByteBitmapDefault.default.Goals as goal

pub returns : goal.returns
unfolding contains
returns c b = and_right (ltb b 256) _ (bit_in-zeros 16 16 b)
