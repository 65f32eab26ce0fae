use Rattle.regress_tree.specs.Tree.{tree}
use Rattle.regress_tree.proofs.DuplicateLemmas.{may_duplicate-is}
use Rattle.regress_tree.proofs.ir.node.Node.try_duplicate.Goals as goal

pub returns-clause-some : goal.returns-clause-some
returns-clause-some c = rw (← may_duplicate-is c.args.depth (tree c.args.self.now)) c.duplicate_node.ensures.some
