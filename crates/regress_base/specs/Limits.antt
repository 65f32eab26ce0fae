-- The limits of a pattern (dialect).
use Rattle.std.specs.Prelude.{ℕ}

-- the maximum number of capture groups
abbrev pub max_capture_groups : ℕ
max_capture_groups = 65535

-- the maximum number of loops, which are quantified terms
abbrev pub max_loops : ℕ
max_loops = 65535

-- the maximum nesting depth: 1 for the whole pattern, 1 for each group, and with the flag v 1 for each class inside
-- another class
abbrev pub max_nesting_depth : ℕ
max_nesting_depth = 256

-- the maximum number of members of a small set of bytes or code points
abbrev pub max_char_set_length : ℕ
max_char_set_length = 4
