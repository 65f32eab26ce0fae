-- The law, from what happened to the loop.
use Rattle.std.proofs.Common.{sym, ◌∙◌}
use Rattle.regress_tree.specs.Tree.{tree}
use Rattle.regress_passes.proofs.UnrollLemmas.{loop_lawful}
use Rattle.regress_passes.proofs.unroll_loops.unroll_loops.Goals as goal

pub returns-clause-lawful : goal.returns-clause-lawful
returns-clause-lawful c d =
    loop_lawful d (tree c.args.node.now) (tree c.unroll.new.node) c.requires (sym c.may_unroll.ensures ∙ c.if-not-may_unroll.false)
    c.in_ok-unroll.ensures.unrolled
