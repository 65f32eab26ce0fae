-- The captures so far are inside the text.
use Rattle.std.proofs.Common.{All, take}
use Rattle.regress_tree.specs.Inside.{IsCaptureInside}
use Rattle.regress.proofs.expanding.are_inside.Given as goal

abbrev pub invariant-loop-group : goal.invariant-loop-group
invariant-loop-group l = All (IsCaptureInside l.text) (take l.group-index l.groups)
