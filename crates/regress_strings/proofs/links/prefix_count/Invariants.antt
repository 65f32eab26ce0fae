-- The text begins with none of the strings from `found` on.
use Rattle.std.proofs.Common.{◌≡◌, ℕ, ◌<◌, ◌≤◌, false, nat_eq}
use Rattle.std.specs.List.{starts_with}
use Rattle.regress_strings.specs.Ordered.{string_of}
use Rattle.regress_strings.proofs.links.prefix_count.Given as goal

abbrev pub invariant-loop-found : goal.invariant-loop-found
invariant-loop-found l = record {
  within : l.found ≤ l.count;
  last : (i : ℕ) → l.found ≤ i → i < l.count → starts_with nat_eq l.text (string_of l.order i) ≡ false;
}

abbrev pub decreases-loop-found : goal.decreases-loop-found
decreases-loop-found l = l.found
