-- Byte sets: sets of numbers below 256, each given by a test on numbers.
use Rattle.std.specs.Prelude.{◌≡◌, ℕ, ◌/◌, ◌%◌, Bool, ◌&&◌, ◌==◌, nat_lt, List, filter, count_by, slice_index}
use Rattle.std.specs.Int.{bit_at}
use Rattle.std.specs.List.{list_any, range_with_len}

-- the numbers from 0 to 255
unfoldable pub all_bytes : List ℕ
all_bytes = range_with_len 0 256

-- the members of a byte set, ascending, each once
abbrev pub members_of : (ℕ → Bool) → List ℕ
members_of set = filter set all_bytes

-- the number of members of a byte set
abbrev pub member_count : (ℕ → Bool) → ℕ
member_count set = count_by set all_bytes

-- both byte sets have the same members
abbrev pub SameMembers : (ℕ → Bool) → (ℕ → Bool) → Type 0
SameMembers p q = (b : ℕ) → p b ≡ q b

-- the set of the bytes of a list
unfoldable pub bytes_of : List ℕ → ℕ → Bool
bytes_of xs b = nat_lt b 256 && list_any (λ x. x == b) xs

-- whether bit b is set in a list of cells with `width` bits each, the lowest bit first
unfoldable pub bit_in : ℕ → List ℕ → ℕ → Bool
bit_in width cells b = bit_at (slice_index cells (b / width)) (b % width) == 1
