-- Which entries of a case mapping table are valid, and which arguments of `Tables::new`.
use Rattle.std.specs.Prelude.{ℕ, ◌+◌, ◌-◌, ◌^◌, ◌<◌, ◌≤◌, ◌≡◌, ◌⊎◌, Bool, true, ◌&&◌, nat_le, nat_lt, List, [], ◌∷◌, ℤ, pos, negsuc, ◌≤ℤ◌, IsTrue}
use Rattle.std.specs.List.{list_all}
use Rattle.regress_base.specs.Intervals.{code_point_max}
use Rattle.regress_base.specs.Table.{IsIdempotent, HasSmallClasses, IsValidTable}
use Rattle.regress_unicode.specs.FoldEntries.{FoldEntry, mapped}
use Rattle.regress_unicode.specs.Parts.{Parts, table_from}

-- The bounds of a packed range: at most 4096 code points, all below the last one of plane 15 (dialect).
pub record IsPackable (start length : ℕ) : Type 0 where
  pub nonempty : 1 ≤ length
  pub short : length ≤ 4096
  pub low : start + length < 2 ^ 20

-- every code point is mapped, or each second, fourth, eighth or sixteenth one
abbrev pub IsModulo : ℕ → Type 0
IsModulo m = (m ≡ 1) ⊎ (m ≡ 2) ⊎ (m ≡ 4) ⊎ (m ≡ 8) ⊎ (m ≡ 16)

-- the bounds of a packed entry
pub record IsPackableEntry (mapping : FoldEntry) : Type 0 where
  pub span : IsPackable mapping.start mapping.length
  pub delta_low : negsuc (2 ^ 27 - 1) ≤ℤ mapping.delta
  pub delta_high : mapping.delta ≤ℤ pos (2 ^ 27 - 1)
  pub modulo : IsModulo mapping.modulo

-- Each range begins at `low` or above, and after the end of the one before it.
abbrev pub is_in_order_from : ℕ → List FoldEntry → Bool
is_in_order_from low [] = true
is_in_order_from low (mapping ∷ mappings) = nat_le low mapping.start && is_in_order_from (mapping.start + mapping.length) mappings

-- the ranges ascend, and no two have a code point in common
abbrev pub is_in_order : List FoldEntry → Bool
is_in_order mappings = is_in_order_from 0 mappings

-- whether a code point plus a delta is a code point
abbrev pub stays_in_range : ℤ → ℕ → Bool
stays_in_range (pos n) c = nat_le (c + n) code_point_max
stays_in_range (negsuc n) c = nat_lt n c && nat_le (c - (n + 1)) code_point_max

-- the delta maps the first and the last code point of the range to code points
abbrev pub is_target_in_range : FoldEntry → Bool
is_target_in_range mapping =
    stays_in_range mapping.delta mapping.start && stays_in_range mapping.delta (mapping.start + mapping.length - 1)

-- the same for every entry
abbrev pub are_targets_in_range : List FoldEntry → Bool
are_targets_in_range mappings = list_all is_target_in_range mappings

-- The entries of a case mapping are valid: a binary search finds the entry of a code point, and the result is a case
-- mapping.
pub record AreValidEntries (mappings : List FoldEntry) : Type 0 where
  pub in_order : IsTrue (is_in_order mappings)
  pub in_range : IsTrue (are_targets_in_range mappings)
  pub idempotent : IsIdempotent (mapped mappings)
  pub small_classes : HasSmallClasses (mapped mappings)

-- The invariant of `Tables`.
pub record IsSound (parts : Parts) : Type 0 where
  pub folds : AreValidEntries parts.folds
  pub uppers : AreValidEntries parts.uppers
  pub lawful : IsValidTable (table_from parts)
