use Rattle.std.proofs.Common.{arith}
use Rattle.std.proofs.lemmas.Bool.Decides.{nat_tests}
use Rattle.regress_base.proofs.FindLemmas.{bytes_of-three}
use Rattle.regress_base.proofs.bytesearch.small_arrays.ArrayU83SmallArraySet.contains.Goals as goal

pub returns-then-b-self-2 : goal.returns-then-b-self-2
returns-then-b-self-2 c = grind (arith, nat_tests, bytes_of-three)

pub returns-else-b-self-2 : goal.returns-else-b-self-2
returns-else-b-self-2 c = grind (arith, nat_tests, bytes_of-three)
