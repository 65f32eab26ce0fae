-- the characters so far
use Rattle.std.proofs.Common.{◌≡◌, ◌++◌, flat_map, encode_utf8_all, string_bytes}
use Rattle.regress_escape.specs.Escape.{encoded}
use Rattle.regress_escape.proofs.pattern.escape.Given as goal

abbrev pub invariant-loop-c : goal.invariant-loop-c
invariant-loop-c l = string_bytes l.pattern ≡ string_bytes l.initial.pattern ++ encode_utf8_all (flat_map encoded l.yielded)
