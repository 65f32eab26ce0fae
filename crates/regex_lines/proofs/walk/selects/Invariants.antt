use Rattle.std.proofs.Common.{◌≡◌, drop, map}
use Rattle.regex_lines.specs.Walk.{decided, filter, selects}
use Rattle.regex_lines.proofs.walk.selects.Given as goal

-- what the filters that are left decide
abbrev pub invariant-loop-filter : goal.invariant-loop-filter
invariant-loop-filter l = decided l.selected (map filter (drop l.filter-index l.filters)) l.points.items ≡ selects (map filter l.filters) l.points.items
