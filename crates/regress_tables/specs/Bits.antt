-- Lists of bits in words.
use Rattle.std.specs.Prelude.{ℕ, ◌/◌, ◌%◌, ◌==◌, Bool, List, length, map, slice_index}
use Rattle.std.specs.Int.{bit_at}
use Rattle.std.specs.List.{range_with_len}
use Rattle.regress_tables.specs.declared.bits.Bits.{Bits}

-- bit k of the words, counted from the lowest bit of the first word
abbrev pub bit_of : List ℕ → ℕ → Bool
bit_of words k = bit_at (slice_index words (k / 64)) (k % 64) == 1

-- the bits of the list
unfoldable pub bits_of : Bits → List Bool
bits_of b = map (bit_of b.words.items) (range_with_len 0 b.len)

-- the number of words that hold them, those without a bit so far among them
abbrev pub words_of : Bits → ℕ
words_of b = length b.words.items
