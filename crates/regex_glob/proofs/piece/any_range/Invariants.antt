use Rattle.std.proofs.Common.{◌≡◌, drop}
use Rattle.std.specs.List.{list_any}
use Rattle.regex_glob.specs.Glob.{in_range}
use Rattle.regex_glob.proofs.piece.any_range.Given as goal

-- it is in none so far
abbrev pub invariant-loop-first : goal.invariant-loop-first
invariant-loop-first l = list_any (in_range l.c) (drop l.first-index l.ranges) ≡ list_any (in_range l.c) l.ranges
