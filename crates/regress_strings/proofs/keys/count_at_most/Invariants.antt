-- The strings below `low` do not come after the text, and those from `high` on do.
use Rattle.std.proofs.Common.{◌≡◌, ℕ, ◌-◌, ◌<◌, ◌≤◌, true}
use Rattle.regress_strings.specs.Order.{is_after}
use Rattle.regress_strings.specs.Ordered.{NoneAfter, place_count, string_of}
use Rattle.regress_strings.proofs.keys.count_at_most.Given as goal

abbrev pub invariant-loop-low : goal.invariant-loop-low
invariant-loop-low l = record {
  ordered : l.low ≤ l.high;
  within : l.high ≤ place_count l.order;
  none : NoneAfter (string_of l.order) l.text l.low;
  all : (i : ℕ) → l.high ≤ i → i < place_count l.order → is_after (string_of l.order i) l.text ≡ true;
}

abbrev pub decreases-loop-low : goal.decreases-loop-low
decreases-loop-low l = l.high - l.low
