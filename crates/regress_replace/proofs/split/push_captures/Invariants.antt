-- The captures so far and the remaining ones are all captures.
use Rattle.std.proofs.Common.{◌≡◌, ◌++◌, drop}
use Rattle.regress_found.specs.Found.{state_of}
use Rattle.regress_replace.proofs.split.push_captures.Given as goal

abbrev pub invariant-loop-id : goal.invariant-loop-id
invariant-loop-id l = l.spans.items ++ drop l.id (state_of l.found).captures ≡ l.initial.spans.items ++ (state_of l.found).captures
