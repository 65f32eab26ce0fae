-- The letters before the remaining ones occur only once.
use Rattle.std.proofs.Common.{◌≡◌, length}
use Rattle.regress_lexer.specs.Modifiers.{are_different}
use Rattle.regress_lexer.proofs.modifiers.are_different.Given as goal

abbrev pub invariant-loop-left : goal.invariant-loop-left
invariant-loop-left l = are_different l.fn.letters ≡ are_different l.left

abbrev pub decreases-loop-left : goal.decreases-loop-left
decreases-loop-left l = length l.left
