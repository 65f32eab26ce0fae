use Rattle.regress_tree.specs.Walk.{direction_of}
use Rattle.regress_passes.proofs.rewrites.PropagateEarlyFailsRewrite.apply.Goals as goal

pub returns-clause-lawful : goal.returns-clause-lawful
returns-clause-lawful c = c.propagate_early_fails.ensures (direction_of c.args._walk.now)
