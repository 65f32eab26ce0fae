-- What the spans that are left take is what is left of the room.
use Rattle.std.proofs.Common.{◌≡◌, ◌+◌, flat_map, length}
use Rattle.regress.specs.Compiled.{match_of}
use Rattle.regress.specs.Groups.{spans_left}
use Rattle.regress_capi.specs.Spans.{ends_of, match_ends}
use Rattle.regress_capi.proofs.ends.have_room.Given as goal

abbrev pub invariant-loop : goal.invariant-loop
invariant-loop l = length (flat_map ends_of (spans_left l.iterator')) + l.room ≡ length (match_ends (match_of l.found)) + l.left
