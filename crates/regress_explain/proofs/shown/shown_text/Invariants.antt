-- the characters so far
use Rattle.std.proofs.Common.{◌≡◌, flat_map, string_bytes}
use Rattle.regress_explain.specs.Shown.{shown_character}
use Rattle.regress_explain.proofs.shown.shown_text.Given as goal

abbrev pub invariant-loop-c : goal.invariant-loop-c
invariant-loop-c l = string_bytes l.shown ≡ flat_map shown_character l.yielded
