-- The entries so far are in order, and the next one has to begin at `low` or above.
use Rattle.std.proofs.Common.{◌≡◌, ◌^◌, ◌≤◌, drop}
use Rattle.regress_unicode.specs.ValidEntries.{is_in_order_from, is_in_order}
use Rattle.regress_unicode.proofs.checks.check_order.Given as goal

abbrev pub invariant-loop-mapping : goal.invariant-loop-mapping
invariant-loop-mapping l = record {
  low : l.low ≤ 2 ^ 20;
  same : is_in_order_from l.low (drop l.mapping-index l.mappings) ≡ is_in_order l.mappings;
}
