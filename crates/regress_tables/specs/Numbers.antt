-- Lists of numbers.
use Rattle.std.specs.Prelude.{ℕ, List, length}
use Rattle.regress_tables.specs.declared.numbers.Numbers.{Numbers}
use Rattle.regress_tables.specs.declared.numbers.Numbers.TheVariants as kinds

-- the numbers
abbrev pub numbers_of : Numbers → List ℕ
numbers_of (kinds.U8 list) = list.items
numbers_of (kinds.U16 list) = list.items
numbers_of (kinds.U32 list) = list.items

-- how many there are
abbrev pub count_of : Numbers → ℕ
count_of numbers = length (numbers_of numbers)

-- the number of bytes that each of them takes
abbrev pub bytes_each : Numbers → ℕ
bytes_each (kinds.U8 list) = 1
bytes_each (kinds.U16 list) = 2
bytes_each (kinds.U32 list) = 4
