use Rattle.std.proofs.Common.{◌∙◌, ap₂, slice_range}
use Rattle.example_callers.proofs.slice.first_match.Goals as goal

pub returns-in-Matched-clause-found : goal.returns-in-Matched-clause-found
returns-in-Matched-clause-found c = record {
  found = c.in-Matched.found;
  leftmost = rw c.in-Matched.is at c.in_ok-outcome.ensures.finds;
  slice = c.range.ensures.value ∙ ap₂ (λ a b. slice_range c.args.text.now a b) c.start.ensures c.end.ensures;
}
