use Rattle.regress_tree.specs.Walk.{direction_of}
use Rattle.regress_passes.proofs.rewrites.RemoveEmptiesRewrite.apply.Goals as goal

pub returns-clause-lawful : goal.returns-clause-lawful
returns-clause-lawful c = c.remove_empties.ensures (direction_of c.args._walk.now)
