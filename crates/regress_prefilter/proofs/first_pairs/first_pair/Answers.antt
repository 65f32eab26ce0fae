use Rattle.std.proofs.Common.{refl}
use Rattle.regress_tree.specs.Tree.{tree}
use Rattle.regress_prefilter.proofs.FirstPairLemmas.{pair-needed}
use Rattle.regress_prefilter.proofs.first_pairs.first_pair.Goals as goal

pub returns : goal.returns
returns c = pair-needed c.in_ok-front.front _ (tree c.args.node.now) c.if-front.false c.if-front-2.false refl refl c.in_ok-front.ensures
