-- The keys so far are those of the first places.
use Rattle.std.proofs.Common.{◌≡◌, length}
use Rattle.regress_strings.specs.Keys.{AreKeys}
use Rattle.regress_strings.specs.Ordered.{string_of}
use Rattle.regress_strings.proofs.keys.keys_of.Given as goal

abbrev pub invariant-loop-place : goal.invariant-loop-place
invariant-loop-place l = record {
  keys : AreKeys (string_of l.order) l.keys.items;
  each : length l.keys.items ≡ l.place;
}
