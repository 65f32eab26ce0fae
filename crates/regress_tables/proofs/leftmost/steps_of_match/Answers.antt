use Rattle.std.proofs.Common.{ℕ, ◌<◌, ◌^◌, arith}
use Rattle.regress_program.specs.Cost.{blocks}
use Rattle.regress_tables.proofs.leftmost.steps_of_match.Goals as goal

few : (groups : ℕ) → groups < 2 ^ 64 → blocks groups < 2 ^ 58
unfolding blocks
few groups fits = omega (arith, fits)

pub returns-clause-charged : goal.returns-clause-charged
returns-clause-charged c =
    let small = few c.args.groups (omega (arith, c.ranges.groups)) in
    omega (arith, small, c.requires, c.blocks-captures.ensures, c.saturating_add.ensures, c.saturating_add-2.ensures)
