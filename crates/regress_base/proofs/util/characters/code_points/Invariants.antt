use Rattle.std.proofs.Common.{◌≡◌, ◌≤◌, All}
use Rattle.regress_base.proofs.util.characters.code_points.Given as goal

-- the list has the characters so far, each at most U+10FFFF
abbrev pub invariant-loop-c : goal.invariant-loop-c
invariant-loop-c l = record {
  so_far : l.points.items ≡ l.yielded;
  in_range : All (λ c. c ≤ 0x10_FFFF) l.points.items;
}
