-- The list has what the entries of the groups so far map to the target.
use Rattle.std.proofs.Common.{◌-◌}
use Rattle.regress_unicode.specs.SourceIndex.{ListsSources}
use Rattle.regress_unicode.proofs.SourceIndexLemmas.{AreLeft}
use Rattle.regress_unicode.proofs.unfold.push_grouped_sources.Given as goal

abbrev pub invariant-loop-left : goal.invariant-loop-left
invariant-loop-left l = record {
  listed : ListsSources l.list.items l.mappings l.end l.target;
  are_left : AreLeft l.left l.mappings l.end l.target;
}

abbrev pub decreases-loop-left : goal.decreases-loop-left
decreases-loop-left l = 256 - l.end
