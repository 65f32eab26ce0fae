-- Characters in a row that a leaf matches.
use Rattle.std.specs.Prelude.{◌≡◌, ℕ, zero, suc, ◌+◌, ◌-◌, List, slice_get, Some}
use Rattle.regress_leaves.specs.Leaves.{GoesTo}
use Rattle.regress_leaves.specs.Subject.{Subject}
use Rattle.regress_leaves.specs.declared.test.Test.{Test}
use Rattle.regress_tree.specs.Reading.{Direction, forwards, backwards}
use Rattle.regress_tree.specs.Tree.{Tree, tree}
use Rattle.regress_tables.specs.declared.runs.Run.{Run}
use Rattle.regress_tables.specs.declared.runs.Runs.{Runs}

-- the position after this number of bytes
abbrev pub bytes_on : Direction → (position count : ℕ) → ℕ
bytes_on forwards position count = position + count
bytes_on backwards position count = position - count

-- A leaf matches this number of characters in a row from a position, each of one byte.
abbrev pub Repeats : Subject → Tree → (position count : ℕ) → Type 0
Repeats u t position zero = Unit {0}
Repeats u t position (suc n) = GoesTo u position t (Some (bytes_on u.direction position 1)) × Repeats u t (bytes_on u.direction position 1) n

-- The leaf of the run matches its characters.
abbrev pub IsRun : Subject → List Test → Run → Type 0
IsRun u tests run = (test : Test) → slice_get tests run.leaf ≡ Some test → Repeats u (tree test.node) run.position run.length

-- So it is with each run.
abbrev pub AreRuns : Subject → List Test → Runs → Type 0
AreRuns u tests runs = (k : ℕ) (run : Run) → slice_get runs.slots k ≡ Some run → IsRun u tests run
