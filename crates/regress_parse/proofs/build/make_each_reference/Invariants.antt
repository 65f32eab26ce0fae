use Rattle.std.proofs.Common.{◌≡◌, map, take}
use Rattle.regress_tree.specs.Tree.{tree}
use Rattle.regress_parse.specs.TreeOf.{references}
use Rattle.regress_parse.proofs.build.make_each_reference.Given as goal

abbrev pub invariant-loop-group : goal.invariant-loop-group
invariant-loop-group l = map tree l.references.items ≡ references l.icase (take l.group-index l.groups)
