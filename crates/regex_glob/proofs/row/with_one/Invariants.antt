use Rattle.std.proofs.Common.{◌≡◌, ◌≤◌, drop, length}
use Rattle.regex_glob.specs.Glob.{characters}
use Rattle.regex_glob.specs.Row.{steps}
use Rattle.regex_glob.proofs.row.with_one.Given as goal

-- the values from this position on
abbrev pub invariant-loop-index : goal.invariant-loop-index
invariant-loop-index l = (l.next.items ≡ steps (characters l.set) (drop l.index l.text) (drop l.index l.row.items)) × (l.index ≤ length l.text)

abbrev pub decreases-loop-index : goal.decreases-loop-index
decreases-loop-index l = l.index
