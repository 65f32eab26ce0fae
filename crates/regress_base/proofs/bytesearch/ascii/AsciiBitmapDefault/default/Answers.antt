use Rattle.std.proofs.Common.{ltb}
use Rattle.std.proofs.lemmas.Bool.{and_right}
use Rattle.regress_base.specs.AsciiBitmap.{ascii_contains}
use Rattle.regress_base.proofs.CellLemmas.{bit_in-zeros}
use Rattle.regress_base.proofs.bytesearch.ascii.AsciiBitmapDefault.default.Goals as goal

pub returns : goal.returns
unfolding ascii_contains
returns c b = and_right (ltb b 128) _ (bit_in-zeros 8 16 b)
