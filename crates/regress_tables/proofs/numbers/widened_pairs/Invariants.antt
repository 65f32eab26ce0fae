use Rattle.std.proofs.Common.{◌≡◌, take}
use Rattle.regress_tables.proofs.numbers.widened_pairs.Given as goal

abbrev pub invariant-loop-number : goal.invariant-loop-number
invariant-loop-number l = l.wide.items ≡ take l.number-index l.list.items
