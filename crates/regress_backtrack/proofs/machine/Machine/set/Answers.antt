use Rattle.std.proofs.Common.{rules}
use Rattle.regress_backtrack.proofs.MachineLemmas.{kept-set}
use Rattle.regress_backtrack.proofs.machine.Machine.set.Goals as goal

pub returns-in_ok-push_within-clause-kept : goal.returns-in_ok-push_within-clause-kept
returns-in_ok-push_within-clause-kept c =
    kept-set c.args.self.now _ c.args.group c.index.result.now c.args.span (search rules) (search rules) (search rules) (search rules)
