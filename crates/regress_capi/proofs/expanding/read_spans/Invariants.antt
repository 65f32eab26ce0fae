-- The ends of the spans so far and those that remain are together all ends.
use Rattle.std.proofs.Common.{◌≡◌, ◌≢◌, ◌++◌, All, Some, flat_map, length}
use Rattle.regress_capi.specs.Spans.{ends_of, unset}
use Rattle.regress_capi.proofs.expanding.read_spans.Given as goal

abbrev pub invariant-loop-rest : goal.invariant-loop-rest
invariant-loop-rest l = record {
  ends : flat_map ends_of l.spans.items ++ l.rest ≡ l.fn.ends;
  set : All (λ span. span ≢ Some (unset, unset)) l.spans.items;
}

abbrev pub decreases-loop-rest : goal.decreases-loop-rest
decreases-loop-rest l = length l.rest
