-- Each entry after the first maps nothing to an ASCII character that remains outside the set, and has its bit.
use Rattle.std.proofs.Common.{◌∙◌, arith}
use Rattle.regress_unicode.specs.FoldEntries.{FoldEntry}
use Rattle.regress_unicode.proofs.SourceLemmas.{has_source-no_more}
use Rattle.regress_unicode.proofs.SourceIndexLemmas.{has_groups-more}
use Rattle.regress_unicode.proofs.index.SourceIndex.new.Goals as goal

pub loop-i-preserved : goal.loop-i-preserved
loop-i-preserved c =
    let mapping : FoldEntry = c.index-mappings-i.result in
    record {
      from = omega (arith, c.loop-i.invariant.from);
      alone = λ target x lt outside. c.loop-i.invariant.alone target x lt (c.add_targets.ensures.kept target outside)
          ∙ has_source-no_more c.args.mappings.now c.loop-i.i target x mapping (omega (arith, c.loop-i-test.true)) c.index-mappings-i.is
          (c.add_targets.ensures.added target x lt outside);
      grouped = has_groups-more _ _ c.args.mappings.now c.loop-i.i mapping (omega (arith, c.loop-i-test.true)) c.index-mappings-i.is
          c.add_group.ensures.kept c.add_group.ensures.added c.loop-i.invariant.grouped;
    }
