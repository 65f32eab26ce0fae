-- Sets of rows.
use Rattle.std.specs.Prelude.{◌≡◌, ℕ, ◌<◌}
use Rattle.std.specs.Int.{bit_at}
use Rattle.regress_tables.specs.declared.row_set.RowSet.{RowSet}

-- The set has this number.
abbrev pub Has : RowSet → (number : ℕ) → Type 0
Has rows number = (number < 64) × (bit_at rows.members number ≡ 1)
