use Rattle.std.proofs.Common.{◌≡◌, map, vec_len}
use Rattle.regress_tree.specs.Tree.{tree}
use Rattle.regress_parse.specs.Parsing.{alternatives}
use Rattle.regress_parse.proofs.build.make_alt.Given as goal

abbrev pub invariant-loop-left : goal.invariant-loop-left
invariant-loop-left l = alternatives (map tree l.before.items) (tree l.node) ≡ alternatives (map tree l.fn.before.items) (tree l.fn.last)

abbrev pub decreases-loop-left : goal.decreases-loop-left
decreases-loop-left l = vec_len l.before
