-- the commands so far
use Rattle.std.proofs.Common.{flat_map, take}
use Rattle.std.specs.Fmt.{HasWritten, IsPlainFormatter}
use Rattle.regress_svg.specs.Markup.{command_bytes}
use Rattle.regress_svg.proofs.element.write_commands.Given as goal

abbrev pub invariant-loop-command : goal.invariant-loop-command
invariant-loop-command g l =
    IsPlainFormatter l.fn.f → HasWritten g.W.Write.write_str_gives l.fn.f (flat_map command_bytes (take l.command-index l.commands)) l.f
