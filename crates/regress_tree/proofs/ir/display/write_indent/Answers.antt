use Rattle.std.proofs.Common.{refl, codes}
use Rattle.std.proofs.Output.{has_written_append, has_written_of_eq}
use Rattle.regress_tree.proofs.DisplayLemmas.{repeat_more}
use Rattle.regress_tree.proofs.ir.display.write_indent.Goals as goal

pub loop-level-preserved : goal.loop-level-preserved
loop-level-preserved g c plain =
    let so_far = c.loop-level.invariant plain in
    let one = c.in_ok-write_str.ensures.writes so_far.plain refl in
    has_written_of_eq _ _ _ _ _ (repeat_more c.loop-level._level (codes "..")) (has_written_append _ _ _ _ _ _ so_far one)
