-- a line for each part so far
use Rattle.std.proofs.Common.{◌+◌, ◌≤◌, length}
use Rattle.regress_outline.proofs.lines.+add_lines.Given as goal

abbrev pub invariant-add_lines-loop-part : goal.invariant-add_lines-loop-part
invariant-add_lines-loop-part l = length l.initial.lines.items + l.part-index ≤ length l.lines.items
