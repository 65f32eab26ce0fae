-- The memory of tables.
use Rattle.std.specs.Prelude.{ℕ, ◌+◌, ◌*◌, List, length, sum_by}
use Rattle.std.specs.Int.{div_ceil}
use Rattle.regress_tables.specs.Bits.{words_of}
use Rattle.regress_tables.specs.Numbers.{bytes_each}
use Rattle.regress_tables.specs.declared.table.Table.{Table}

-- The memory in bytes that suffices for the tables of a text, but for the numbers of rows of lookarounds: at each position
-- two bits for each instruction, rounded up to bytes, and 8 bytes. A table of rows that all differ takes the bits, up to 4
-- bytes for the numbers of the rows, and up to 4 bytes while it grows.
abbrev pub table_bytes : (instructions : ℕ) (text : List ℕ) → ℕ
table_bytes instructions text = (div_ceil instructions 4 + 8) * (length text + 1)

-- the number of bytes that a table stores: 8 for each word of bits, and for each position those of the number of a row
abbrev pub stored_in : Table → ℕ
stored_in t = 8 * words_of t.bits + bytes_each t.rows * (t.length + 1)

-- the number of bytes that tables store
abbrev pub stored_bytes : List Table → ℕ
stored_bytes tables = sum_by stored_in tables
