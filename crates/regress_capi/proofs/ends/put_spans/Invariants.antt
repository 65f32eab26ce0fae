-- The numbers of the spans so far are written.
use Rattle.regress.specs.Compiled.{match_of}
use Rattle.regress.specs.Groups.{spans_left}
use Rattle.regress_capi.specs.Spans.{match_ends}
use Rattle.regress_capi.proofs.PutLemmas.{HasPut}
use Rattle.regress_capi.proofs.ends.put_spans.Given as goal

abbrev pub invariant-loop-span : goal.invariant-loop-span
invariant-loop-span l = HasPut l.fn.buffer l.buffer l.count (spans_left l.span-iterator) (match_ends (match_of l.found))
