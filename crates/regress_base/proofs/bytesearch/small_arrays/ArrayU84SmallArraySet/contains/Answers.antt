use Rattle.std.proofs.Common.{arith}
use Rattle.std.proofs.lemmas.Bool.Decides.{nat_tests}
use Rattle.regress_base.proofs.FindLemmas.{bytes_of-four}
use Rattle.regress_base.proofs.bytesearch.small_arrays.ArrayU84SmallArraySet.contains.Goals as goal

pub returns-then-b-self-3 : goal.returns-then-b-self-3
returns-then-b-self-3 c = grind (arith, nat_tests, bytes_of-four)

pub returns-else-b-self-3 : goal.returns-else-b-self-3
returns-else-b-self-3 c = grind (arith, nat_tests, bytes_of-four)
