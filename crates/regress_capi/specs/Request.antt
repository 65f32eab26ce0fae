-- The request that a call's arguments make.
use Rattle.std.specs.Prelude.{◌≡◌, ℕ, ◌≤◌, ◌<◌, Bool, not, ◌==◌, bit_and, All, List, IsUtf8, if◌then◌else◌}
use Rattle.regress_base.specs.Intervals.{code_point_max}
use Rattle.regress_base.specs.Table.{Table}
use Rattle.regress_base.specs.declared.types.Flags.{Flags}
use Rattle.regress_unicode.specs.SmallTable.{small_table}
use Rattle.regress_ucd.specs.UnicodeTable.{unicode_table}
use Rattle.regress_tree.specs.Steps.{Setting}
use Rattle.regress_lexer.specs.Dialects.{flags_in_force}
use Rattle.regress_lexer.specs.declared.dialect.Dialect.{Dialect}
use Rattle.regress_lexer.specs.declared.dialect.Dialect.TheVariants.{Ecma, Regress}

-- whether the bit is set
abbrev pub has : ℕ → ℕ → Bool
has bits bit = not (bit_and bits bit == 0)

-- the flags that bits 0 to 4 specify
abbrev pub flags_of : ℕ → Flags
flags_of bits = record {
  icase = has bits 1;
  multiline = has bits 2;
  dot_all = has bits 4;
  unicode = has bits 8;
  unicode_sets = has bits 16;
}

-- the small table if bit 5 is set, else the table of all of Unicode
abbrev pub table_by : ℕ → Table
table_by bits = if has bits 32 then small_table else unicode_table

-- the flags and the table that the bits specify, in the dialect Regress
abbrev pub setting_by : ℕ → Setting
setting_by bits = record { flags = flags_of bits; table = table_by bits }

-- no bit but 0 to 5 and 18, and a choice of 0 or 1
abbrev pub AreOptions : ℕ → ℕ → Type 0
AreOptions bits choice = (bit_and bits 0x4003F ≡ bits) × (choice < 2)

-- code points, and valid options
abbrev pub IsRequest : List ℕ → ℕ → ℕ → Type 0
IsRequest pattern bits choice = All (λ c. c ≤ code_point_max) pattern × AreOptions bits choice

-- a pattern in UTF-8, and valid options
abbrev pub IsTextRequest : List ℕ → ℕ → ℕ → Type 0
IsTextRequest pattern bits choice = IsUtf8 pattern × AreOptions bits choice

-- the flags that are in force in the dialect, and the table that the bits specify
abbrev pub setting_in : Dialect → (bits : ℕ) → Setting
setting_in dialect bits = record { flags = flags_in_force dialect (flags_of bits); table = table_by bits }

-- ---- parsing: the bits also name a dialect

-- Ecma if bit 18 is set, else Regress
abbrev pub front_dialect : ℕ → Dialect
front_dialect bits = if has bits 0x40000 then Ecma else Regress

-- the flags that are in force in that dialect, and the table
abbrev pub front_setting : ℕ → Setting
front_setting bits = setting_in (front_dialect bits) bits

-- a pattern in UTF-8, and valid bits that name the dialect Regress
abbrev pub IsDifferencesRequest : List ℕ → ℕ → Type 0
IsDifferencesRequest pattern bits = IsTextRequest pattern bits 0 × (front_dialect bits ≡ Regress)

-- ---- compiling: the bits also name a dialect

-- Regress if bit 17 is set, else Ecma
abbrev pub dialect_of : ℕ → Dialect
dialect_of bits = if has bits 0x20000 then Regress else Ecma

-- no bit but 0 to 5 and 17
abbrev pub AreCompileBits : ℕ → Type 0
AreCompileBits bits = bit_and bits 0x2003F ≡ bits

-- a pattern in UTF-8, and valid bits
abbrev pub IsCompileRequest : List ℕ → ℕ → Type 0
IsCompileRequest pattern bits = IsUtf8 pattern × AreCompileBits bits
