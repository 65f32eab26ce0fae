-- Ranges of code points that are mapped by one delta.
use Rattle.std.specs.Prelude.{ℕ, ◌+◌, ◌-◌, ◌%◌, ◌^◌, ◌≤◌, Bool, ◌&&◌, nat_le, ◌==◌, IsTrue, List, ℤ, pos, negsuc, neg_ℤ, ◌≤ℤ◌}
use Rattle.std.specs.List.{list_any}
use Rattle.regress_base.specs.Intervals.{code_point_max}
use Rattle.regress_unicode.specs.declared.shift.Shift.{Shift}
use Rattle.regress_unicode.specs.FoldEntries.{FoldEntry, moved}
use Rattle.regress_unicode.specs.ValidEntries.{stays_in_range}

-- the shift maps code points to code points
pub record IsShift (s : Shift) : Type 0 where
  pub ordered : s.first ≤ s.last
  pub last : s.last ≤ code_point_max
  pub modulo : 1 ≤ s.modulo
  pub delta_low : negsuc (2 ^ 27 - 1) ≤ℤ s.delta
  pub delta_high : s.delta ≤ℤ pos (2 ^ 27)
  pub first_lands : IsTrue (stays_in_range s.delta s.first)
  pub last_lands : IsTrue (stays_in_range s.delta s.last)

-- whether the shift maps the code point
abbrev pub is_mapped : Shift → ℕ → Bool
is_mapped s c = (nat_le s.first c && nat_le c s.last) && (c - s.first) % s.modulo == 0

-- what a mapped number was before
abbrev pub origin : ℤ → ℕ → ℕ
origin (pos n) c = c - n
origin (negsuc n) c = c + (n + 1)

-- whether the shift maps a number that passes the test to c
unfoldable pub maps_to : Shift → (ℕ → Bool) → ℕ → Bool
maps_to s p c = (is_mapped s (origin s.delta c) && p (origin s.delta c)) && moved s.delta (origin s.delta c) == c

-- the shift of an entry, and its inverse
abbrev pub forward : FoldEntry → Shift
forward mapping = record { first = mapping.start; last = mapping.start + mapping.length - 1; delta = mapping.delta; modulo = mapping.modulo }

abbrev pub backward : FoldEntry → Shift
backward mapping = record {
  first = moved mapping.delta mapping.start;
  last = moved mapping.delta (mapping.start + mapping.length - 1);
  delta = neg_ℤ mapping.delta;
  modulo = mapping.modulo;
}

-- whether the shift of some entry, in that direction, maps a number that passes the test to c
unfoldable pub maps_to_by : (FoldEntry → Shift) → List FoldEntry → (ℕ → Bool) → ℕ → Bool
maps_to_by way mappings p c = list_any (λ mapping. maps_to (way mapping) p c) mappings
