use Rattle.regress_leaves.specs.Subject.{subject}
use Rattle.regress_tree.specs.Tree.{tree}
use Rattle.regress_tables.proofs.EvaluateLemmas.{one_ends}
use Rattle.regress_tables.proofs.evaluate.end_after.Goals as goal

pub returns-then-is_set : goal.returns-then-is_set
returns-then-is_set c =
    one_ends (subject c.args.rules c.args.text.now) (tree c.args.node.now) c.args.position c.args.read c.one_end.result (c.is_set.ensures c.if-is_set.true)
    c.requires.read c.one_end.ensures
