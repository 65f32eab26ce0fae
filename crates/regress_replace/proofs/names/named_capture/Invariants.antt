-- The groups so far have no capture.
use Rattle.std.proofs.Common.{◌≡◌, drop, map}
use Rattle.regress_found.specs.Found.{state_of}
use Rattle.regress_match.specs.Names.{named_span}
use Rattle.regress_match.specs.Pattern.{capture_of}
use Rattle.regress_replace.proofs.names.named_capture.Given as goal

abbrev pub invariant-loop-group : goal.invariant-loop-group
invariant-loop-group l =
    named_span l.name (state_of l.found).captures (map capture_of l.groups)
    ≡ named_span l.name (state_of l.found).captures (map capture_of (drop l.group-index l.groups))
