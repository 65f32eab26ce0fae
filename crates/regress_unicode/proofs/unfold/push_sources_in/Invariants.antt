-- The list has what the entries so far map to the target.
use Rattle.regress_unicode.specs.SourceIndex.{ListsSources}
use Rattle.regress_unicode.proofs.unfold.push_sources_in.Given as goal

abbrev pub invariant-loop-i : goal.invariant-loop-i
invariant-loop-i l = ListsSources l.list.items l.mappings l.i l.target
