-- The small table: a selection from the Unicode Character Database (dialect), with an example of each way in which case
-- mappings relate characters.
use Rattle.std.specs.Prelude.{ℕ, List, [], ◌∷◌, map, ℤ, pos, neg_ℤ, codes}
use Rattle.regress_base.specs.Intervals.{Bounds}
use Rattle.regress_unicode.specs.FoldEntries.{FoldEntry}
use Rattle.regress_base.specs.Table.{Table, Named}
use Rattle.regress_unicode.specs.Parts.{Parts, table_from}

abbrev mapping : ℕ → ℕ → ℤ → ℕ → FoldEntry
mapping start length delta modulo = record { start = start; length = length; delta = delta; modulo = modulo }

abbrev up : ℕ → ℤ
up n = pos n

abbrev down : ℕ → ℤ
down n = neg_ℤ (pos n)

-- CaseFolding.txt: the simple case folding (status C and S) of the selected letters
abbrev pub small_folds : List FoldEntry
small_folds =
    mapping 0x41 26 (up 32) 1 ∷ mapping 0xB5 1 (up 775) 1 ∷ mapping 0xC0 23 (up 32) 1 ∷ mapping 0xD8 7 (up 32) 1
    ∷ mapping 0x17F 1 (down 268) 1 ∷ mapping 0x1B8 1 (up 1) 1 ∷ mapping 0x1BC 1 (up 1) 1 ∷ mapping 0x1F8 39 (up 1) 2
    ∷ mapping 0x37F 1 (up 116) 1 ∷ mapping 0x398 1 (up 32) 1 ∷ mapping 0x39C 1 (up 32) 1 ∷ mapping 0x3D1 1 (down 25) 1
    ∷ mapping 0x3F4 1 (down 60) 1 ∷ mapping 0x212A 1 (down 8383) 1 ∷ mapping 0x16E40 32 (up 32) 1 ∷ mapping 0x1E900 34 (up 34) 1 ∷ []

-- UnicodeData.txt: the simple upper case of the selected letters (ECMA-262, Canonicalize without the flags u and v)
abbrev pub small_uppers : List FoldEntry
small_uppers =
    mapping 0x61 26 (down 32) 1 ∷ mapping 0xB5 1 (up 743) 1 ∷ mapping 0xE0 23 (down 32) 1 ∷ mapping 0xF8 7 (down 32) 1
    ∷ mapping 0x1B9 1 (down 1) 1 ∷ mapping 0x1BD 1 (down 1) 1 ∷ mapping 0x1F9 39 (down 1) 2 ∷ mapping 0x3B8 1 (down 32) 1
    ∷ mapping 0x3BC 1 (down 32) 1 ∷ mapping 0x3D1 1 (down 57) 1 ∷ mapping 0x3F3 1 (down 116) 1 ∷ mapping 0x16E60 32 (down 32) 1
    ∷ mapping 0x1E922 34 (down 34) 1 ∷ []

abbrev interval : ℕ → ℕ → Bounds
interval first last = record { first = first; last = last }

-- a property with its name and its code points
abbrev pub set : List ℕ → List Bounds → Named (List Bounds)
set name intervals = record { name = name; value = intervals }

-- the parts of the small table
abbrev pub small_parts : Parts
small_parts = record {
  folds = small_folds;
  uppers = small_uppers;
  id_start = interval 0x41 0x5A ∷ interval 0x61 0x7A ∷ interval 0xC0 0xD6 ∷ interval 0xD8 0xF6 ∷ [];
  id_continue =
      interval 0x30 0x39 ∷ interval 0x41 0x5A ∷ interval 0x5F 0x5F ∷ interval 0x61 0x7A ∷ interval 0xC0 0xD6
      ∷ interval 0xD8 0xF6 ∷ [];
  general_category =
      set (codes "Zl") (interval 0x2028 0x2028 ∷ []) ∷ set (codes "Line_Separator") (interval 0x2028 0x2028 ∷ [])
      ∷ set (codes "Zp") (interval 0x2029 0x2029 ∷ []) ∷ set (codes "Paragraph_Separator") (interval 0x2029 0x2029 ∷ []) ∷ [];
  script = set (codes "Ogam") (interval 0x1680 0x169C ∷ []) ∷ set (codes "Ogham") (interval 0x1680 0x169C ∷ []) ∷ [];
  script_extensions = set (codes "Ogam") (interval 0x1680 0x169C ∷ []) ∷ set (codes "Ogham") (interval 0x1680 0x169C ∷ []) ∷ [];
  binary =
      set (codes "ASCII") (interval 0 0x7F ∷ []) ∷ set (codes "Any") (interval 0 0x10FFFF ∷ [])
      ∷ set (codes "ASCII_Hex_Digit") (interval 0x30 0x39 ∷ interval 0x41 0x46 ∷ interval 0x61 0x66 ∷ []) ∷ [];
  strings =
      record {
        name = codes "Emoji_Keycap_Sequence";
        value = map (λ key. key ∷ 0xFE0F ∷ 0x20E3 ∷ []) (codes "#*0123456789");
      } ∷ [];
}

-- the table of the selected properties and letters
unfoldable pub small_table : Table
small_table = table_from small_parts
