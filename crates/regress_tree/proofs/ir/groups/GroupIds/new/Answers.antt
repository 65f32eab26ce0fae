use Rattle.regress_tree.proofs.GroupIdLemmas.{holds-none}
use Rattle.regress_tree.proofs.ir.groups.GroupIds.new.Goals as goal

pub returns : goal.returns
returns c = holds-none c.default.result c.default.ensures 256
