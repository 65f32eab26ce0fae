use Rattle.std.proofs.Common.{codes}
use Rattle.std.specs.List.{repeat}
use Rattle.std.specs.Fmt.{HasWritten, IsPlainFormatter}
use Rattle.regress_tree.proofs.ir.display.write_indent.Given as goal

-- the dots so far
abbrev pub invariant-loop-level : goal.invariant-loop-level
invariant-loop-level g l =
    IsPlainFormatter l.fn.f → HasWritten g.W.Write.write_str_gives l.fn.f (repeat l._level (codes "..")) l.f
