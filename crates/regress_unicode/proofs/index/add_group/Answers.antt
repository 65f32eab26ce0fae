-- One more bit is set, in the slot of the block.
use Rattle.std.proofs.Common.{◌<◌, ◌/◌, ◌%◌, length, arith, rules}
use Rattle.regress_unicode.proofs.SourceIndexLemmas.{has_group-kept, has_group-added}
use Rattle.regress_unicode.proofs.index.add_group.Goals as goal

pub loop-block-preserved : goal.loop-block-preserved
loop-block-preserved c =
    let groups = c.loop-block.groups in
    let block = c.loop-block.block in
    let bit = c.args.index / 4 in
    let inside : block % 64 < length groups = search rules in
    let low : bit < 64 = omega arith in
    record {
      kept = λ target other outside. c.loop-block.invariant.kept target other (has_group-kept groups (block % 64) bit target other inside low outside);
      added = has_group-added groups _ block bit inside low c.loop-block.invariant.added;
    }
