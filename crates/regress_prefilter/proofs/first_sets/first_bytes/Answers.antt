use Rattle.regress_tree.specs.Tree.{tree}
use Rattle.regress_prefilter.proofs.FirstSetLemmas.{needed}
use Rattle.regress_prefilter.proofs.first_sets.first_bytes.Goals as goal

pub returns-else-front : goal.returns-else-front
returns-else-front c = needed c.in_ok-front.front (tree c.args.node.now) c.if-front.false c.in_ok-front.ensures
