-- The groups so far have no name.
use Rattle.std.proofs.Common.{◌≡◌, drop, map}
use Rattle.regress_match.specs.Pattern.{capture_of}
use Rattle.regress_replace.specs.Expansion.{any_named}
use Rattle.regress_replace.proofs.names.has_names.Given as goal

abbrev pub invariant-loop-group : goal.invariant-loop-group
invariant-loop-group l = any_named (map capture_of l.groups) ≡ any_named (map capture_of (drop l.group-index l.groups))
