-- The bytes of UTF-8 (RFC 3629, section 3). `encode_utf8` of std gives the bytes of a code point: one byte below 0x80,
-- two below 0x800, three below 0x10000, else four. Surrogates are encoded by the rule for three bytes.
use Rattle.std.specs.Prelude.{ℕ, ◌+◌, ◌*◌, ◌%◌, ◌<◌, ◌≤◌, Bool, ◌&&◌, ◌||◌, nat_le, nat_lt}
use Rattle.regress_base.specs.Intervals.{code_point_max}

-- a Unicode scalar value: a code point that is no surrogate
abbrev pub is_scalar : ℕ → Bool
is_scalar c = nat_lt c 0xD800 || (nat_le 0xE000 c && nat_le c code_point_max)

-- a continuation byte begins with the bits 10
abbrev pub is_continuation : ℕ → Bool
is_continuation b = nat_le 0x80 b && nat_lt b 0xC0

-- the first byte of a sequence of two begins with the bits 110
abbrev pub IsLeadOfTwo : ℕ → Type 0
IsLeadOfTwo b = (0xC0 ≤ b) × (b < 0xE0)

-- the first byte of a sequence of three begins with the bits 1110
abbrev pub IsLeadOfThree : ℕ → Type 0
IsLeadOfThree b = (0xE0 ≤ b) × (b < 0xF0)

-- the first byte of a sequence of four begins with the bits 11110
abbrev pub IsLeadOfFour : ℕ → Type 0
IsLeadOfFour b = (0xF0 ≤ b) × (b < 0xF8)

-- the five low bits of the first byte, then six of the second
abbrev pub value_of_two : ℕ → ℕ → ℕ
value_of_two b0 b1 = (b0 % 32) * 64 + b1 % 64

-- the four low bits of the first byte, then six of each other byte
abbrev pub value_of_three : ℕ → ℕ → ℕ → ℕ
value_of_three b0 b1 b2 = ((b0 % 16) * 64 + b1 % 64) * 64 + b2 % 64

-- the three low bits of the first byte, then six of each other byte
abbrev pub value_of_four : ℕ → ℕ → ℕ → ℕ → ℕ
value_of_four b0 b1 b2 b3 = (((b0 % 8) * 64 + b1 % 64) * 64 + b2 % 64) * 64 + b3 % 64
