use Rattle.regress_normalize.proofs.OptimizedGoal.{goal_kept}
use Rattle.regress_normalize.proofs.optimizer.optimize.Goals as goal

pub returns-in_err-normalize-clause-goal : goal.returns-in_err-normalize-clause-goal
returns-in_err-normalize-clause-goal c = goal_kept _ _ _ _ c.requires c.normalize.ensures

pub returns-clause-goal : goal.returns-clause-goal
returns-clause-goal c = goal_kept _ _ _ _ c.requires c.normalize.ensures
