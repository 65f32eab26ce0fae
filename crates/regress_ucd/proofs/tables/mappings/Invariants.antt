-- The list has the entries so far, with room for the others.
use Rattle.std.proofs.Common.{◌≡◌, map, take, length, vec_len, vec_capacity}
use Rattle.regress_ucd.specs.Data.{mapping}
use Rattle.regress_ucd.proofs.tables.mappings.Given as goal

abbrev pub invariant-loop-start : goal.invariant-loop-start
invariant-loop-start l = record {
  items : l.mappings.items ≡ map mapping (take l.start-index l.listed);
  len : vec_len l.mappings ≡ l.start-index;
  capacity : vec_capacity l.mappings ≡ length l.listed;
}
