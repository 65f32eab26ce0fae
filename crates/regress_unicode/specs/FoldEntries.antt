-- Entries of a case mapping table, which represent the simple case mappings of the Unicode Character Database: ranges
-- of code points, each with a delta.
use Rattle.std.specs.Prelude.{ℕ, ◌+◌, ◌-◌, ◌%◌, Bool, ◌&&◌, nat_le, nat_lt, ◌==◌, if◌then◌else◌, List, [], ◌∷◌, ℤ, pos, negsuc}
use Rattle.std.specs.List.{list_any}

-- a range of `length` code points from `start` on
pub record Span : Type 0 where
  pub start : ℕ
  pub length : ℕ

-- The code points of the range at a distance from `start` that is a multiple of `modulo` are mapped by `delta`. The
-- others are mapped to themselves.
pub record FoldEntry : Type 0 where
  pub start : ℕ
  pub length : ℕ
  pub delta : ℤ
  pub modulo : ℕ

-- the number plus a delta; a result below 0 is 0
abbrev pub moved : ℤ → ℕ → ℕ
moved (pos n) c = c + n
moved (negsuc n) c = c - (n + 1)

-- whether the code point is in the range of the entry
abbrev pub is_in_mapping : FoldEntry → ℕ → Bool
is_in_mapping mapping c = nat_le mapping.start c && nat_lt c (mapping.start + mapping.length)

-- what a code point of the range is mapped to
abbrev pub mapped_in_mapping : FoldEntry → ℕ → ℕ
mapped_in_mapping mapping c = if (c - mapping.start) % mapping.modulo == 0 then moved mapping.delta c else c

-- whether the code point is in the range, and the delta maps it to the target
abbrev pub is_source : FoldEntry → ℕ → ℕ → Bool
is_source mapping target c =
    is_in_mapping mapping c && ((c - mapping.start) % mapping.modulo == 0 && moved mapping.delta c == target)

-- whether an entry of the list maps the code point to the target
unfoldable pub has_source : List FoldEntry → ℕ → ℕ → Bool
has_source mappings target c = list_any (λ mapping. is_source mapping target c) mappings

-- What a table of entries maps a code point to: the first entry with the code point in its range determines it. A code
-- point in no range is mapped to itself.
unfoldable pub mapped : List FoldEntry → ℕ → ℕ
mapped [] c = c
mapped (mapping ∷ mappings) c = if is_in_mapping mapping c then mapped_in_mapping mapping c else mapped mappings c
