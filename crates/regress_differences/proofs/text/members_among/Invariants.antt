-- those so far
use Rattle.std.proofs.Common.{◌≡◌, ◌++◌, drop}
use Rattle.std.specs.List.{filter}
use Rattle.regress_base.specs.Intervals.{is_member}
use Rattle.regress_differences.proofs.text.members_among.Given as goal

abbrev pub invariant-loop-c : goal.invariant-loop-c
invariant-loop-c l = l.found.items ++ filter (is_member l.members) (drop l.c-index l.all) ≡ filter (is_member l.members) l.all
