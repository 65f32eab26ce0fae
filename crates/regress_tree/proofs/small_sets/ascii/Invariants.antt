-- All members so far are ASCII, and are the first of the list.
use Rattle.std.proofs.Common.{◌≡◌, drop, take}
use Rattle.regress_tree.specs.SmallSets.{is_ascii}
use Rattle.regress_tree.proofs.small_sets.ascii.Given as goal

abbrev pub invariant-loop-c : goal.invariant-loop-c
invariant-loop-c l = record {
  listed : l.bytes.items ≡ take l.c-index l.members;
  ascii : is_ascii (drop l.c-index l.members) ≡ is_ascii l.members;
}
