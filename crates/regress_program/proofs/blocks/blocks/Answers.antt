use Rattle.std.proofs.Common.{rules}
use Rattle.regress_program.specs.Cost.{blocks}
use Rattle.regress_program.proofs.blocks.blocks.Goals as goal

pub returns : goal.returns
unfolding blocks
returns c = search rules
