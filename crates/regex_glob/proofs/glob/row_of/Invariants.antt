use Rattle.std.proofs.Common.{◌≡◌, ◌≤◌, drop, length, map}
use Rattle.regex_glob.specs.Glob.{matches, piece_of}
use Rattle.regex_glob.specs.Row.{ends}
use Rattle.regex_glob.proofs.glob.row_of.Given as goal

-- the row of the pieces from this one on
abbrev pub invariant-loop-count : goal.invariant-loop-count
invariant-loop-count l = (l.row.items ≡ ends (matches (map piece_of (drop l.count l.pieces))) l.text) × (l.count ≤ length l.pieces)

abbrev pub decreases-loop-count : goal.decreases-loop-count
decreases-loop-count l = l.count
