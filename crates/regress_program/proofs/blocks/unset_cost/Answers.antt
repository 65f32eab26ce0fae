use Rattle.std.proofs.Common.{arith}
use Rattle.regress_program.proofs.lemmas.Blocks.{blocks_within}
use Rattle.regress_program.proofs.blocks.unset_cost.Goals as goal

pub returns-clause-within : goal.returns-clause-within
returns-clause-within c =
    let few = blocks_within c.saturating_sub.result c.args.groups (omega (arith, c.saturating_sub.ensures, c.min.ensures)) in
    omega (arith, few, c.blocks-2.ensures)
