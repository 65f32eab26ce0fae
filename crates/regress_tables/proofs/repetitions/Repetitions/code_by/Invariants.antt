-- The code has a digit for each of the last instructions.
use Rattle.std.proofs.Common.{◌≡◌, ◌≤◌, drop, length}
use Rattle.regress_tables.specs.Repetitions.{AreStored, code_by}
use Rattle.regress_tables.proofs.repetitions.Repetitions.code_by.Given as goal

abbrev pub invariant-loop-k : goal.invariant-loop-k
invariant-loop-k l = record {
  within : l.k ≤ length l.self.uses.items;
  stored : AreStored l.table l.self.ends.items (drop l.k l.self.uses.items);
  is : l.code ≡ code_by l.table l.self.ends.items (drop l.k l.self.uses.items);
}
