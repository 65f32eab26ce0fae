-- The entries of the backtrack stacks are at most 64 for each step.
use Rattle.std.proofs.Common.{ℕ, ◌+◌, ◌*◌, ◌≤◌, arith}
use Rattle.regress_program.specs.Cost.{blocks}

-- Each block has at most 64, and so has what is left.
pub counted_by_blocks : (count : ℕ) → count ≤ 64 * (1 + blocks count)
unfolding blocks
counted_by_blocks count = omega arith
