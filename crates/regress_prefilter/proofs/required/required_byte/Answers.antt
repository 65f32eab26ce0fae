use Rattle.regress_base.specs.ByteBitmap.{contains}
use Rattle.regress_tree.specs.Tree.{tree}
use Rattle.regress_prefilter.proofs.RequiredLemmas.{member_required}
use Rattle.regress_prefilter.proofs.required.required_byte.Goals as goal

pub returns : goal.returns
returns c = member_required (contains c.required_bytes.result) (tree c.args.node.now) c.rarest.result c.required_bytes.ensures c.rarest.ensures
