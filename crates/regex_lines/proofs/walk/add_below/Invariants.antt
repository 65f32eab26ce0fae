-- What is still to be visited, and the files so far.
use Rattle.std.proofs.Common.{◌≡◌, All, map}
use Rattle.std.specs.Prelude.{string_bytes}
use Rattle.regex_lines.specs.Walk.{IsPending, filter}
use Rattle.regex_lines.proofs.WalkLemmas.{AreAdded}
use Rattle.regex_lines.proofs.walk.add_below.Given as goal

abbrev pub invariant-loop : goal.invariant-loop
invariant-loop g l =
    All (IsPending (map filter l.filters) l.root) l.pending.items
    × AreAdded (map filter l.filters) l.root (map string_bytes l.fn.found.files.items) (map string_bytes l.found.files.items)
    × (l.found.several ≡ l.fn.found.several)
