-- The bytes so far are digits of the key.
use Rattle.std.proofs.Common.{◌≡◌, ◌-◌, ◌^◌, ◌<◌, drop}
use Rattle.regress_strings.specs.Keys.{key_from, key_of}
use Rattle.regress_strings.proofs.keys.key_of.Given as goal

abbrev pub invariant-loop-place : goal.invariant-loop-place
invariant-loop-place l = record {
  within : l.key < 256 ^ l.place;
  digits : key_from l.key (8 - l.place) (drop l.place l.string) ≡ key_of l.string;
}
