-- the characters so far
use Rattle.std.proofs.Common.{flat_map}
use Rattle.std.specs.Fmt.{HasWritten, IsPlainFormatter}
use Rattle.regress_display.specs.Fault.{json_character}
use Rattle.regress_display.proofs.fault.write_json_text.Given as goal

abbrev pub invariant-loop-c : goal.invariant-loop-c
invariant-loop-c g l = IsPlainFormatter l.fn.f → HasWritten g.W.Write.write_str_gives l.fn.f (flat_map json_character l.yielded) l.f
