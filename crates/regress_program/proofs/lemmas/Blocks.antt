-- Steps for bytes and captures that are handled at once.
use Rattle.std.proofs.Common.{ℕ, ◌≤◌, arith}
use Rattle.regress_program.specs.Cost.{blocks}

-- fewer of them count no more steps
pub blocks_within : (m n : ℕ) → m ≤ n → blocks m ≤ blocks n
unfolding blocks
blocks_within m n le = omega (arith, le)
