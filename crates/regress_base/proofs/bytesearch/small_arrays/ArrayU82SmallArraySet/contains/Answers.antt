use Rattle.std.proofs.Common.{arith}
use Rattle.std.proofs.lemmas.Bool.Decides.{nat_tests}
use Rattle.regress_base.proofs.FindLemmas.{bytes_of-two}
use Rattle.regress_base.proofs.bytesearch.small_arrays.ArrayU82SmallArraySet.contains.Goals as goal

pub returns-then-b-self : goal.returns-then-b-self
returns-then-b-self c = grind (arith, nat_tests, bytes_of-two)

pub returns-else-b-self : goal.returns-else-b-self
returns-else-b-self c = grind (arith, nat_tests, bytes_of-two)
