-- The numbers appended and those of the remaining spans are together what is wanted.
use Rattle.std.proofs.Common.{◌≡◌, ◌++◌, flat_map}
use Rattle.regress.specs.Compiled.{match_of}
use Rattle.regress.specs.Groups.{spans_left}
use Rattle.regress_capi.specs.Spans.{ends_of, match_ends}
use Rattle.regress_capi.proofs.ends.push_spans.Given as goal

abbrev pub invariant-loop-span : goal.invariant-loop-span
invariant-loop-span l = l.ends.items ++ flat_map ends_of (spans_left l.span-iterator) ≡ l.fn.ends.items ++ match_ends (match_of l.found)
