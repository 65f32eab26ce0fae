use Rattle.std.proofs.Common.{◌≡◌, ◌≤◌, drop, length}
use Rattle.regex_glob.specs.Row.{head, ors}
use Rattle.regex_glob.proofs.row.with_anything.Given as goal

-- the values from this position on
abbrev pub invariant-loop-index : goal.invariant-loop-index
invariant-loop-index l = (l.next.items ≡ ors (drop l.index l.row.items)) × (l.some ≡ head l.next.items) × (l.index ≤ length l.row.items)

abbrev pub decreases-loop-index : goal.decreases-loop-index
decreases-loop-index l = l.index
