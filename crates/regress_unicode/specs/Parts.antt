-- The arguments of `Tables::new`.
use Rattle.std.specs.Prelude.{ℕ, Bool, if◌then◌else◌, List, [], map, String, string_bytes, Vec}
use Rattle.std.specs.declared.alloc.Global.{Global}
use Rattle.regress_base.specs.Intervals.{Bounds}
use Rattle.regress_unicode.specs.FoldEntries.{FoldEntry, mapped}
use Rattle.regress_base.specs.Table.{Table, Named}
use Rattle.regress_properties.specs.Listed.{values_of}
use Rattle.regress_properties.specs.Properties.{unicode_id_start, unicode_id_continue, unicode_general_category, unicode_script, unicode_script_extensions, unicode_binary, unicode_strings}

-- the entries of both case mappings, the sets of identifier characters, and the named sets and strings
pub record Parts : Type 0 where
  pub folds : List FoldEntry
  pub uppers : List FoldEntry
  pub id_start : List Bounds
  pub id_continue : List Bounds
  pub general_category : List (Named (List Bounds))
  pub script : List (Named (List Bounds))
  pub script_extensions : List (Named (List Bounds))
  pub binary : List (Named (List Bounds))
  pub strings : List (Named (List (List ℕ)))

-- the table with the parts
abbrev pub table_from : Parts → Table
table_from parts = record {
  fold = mapped parts.folds;
  uppercase = mapped parts.uppers;
  id_start = parts.id_start;
  id_continue = parts.id_continue;
  general_category = parts.general_category;
  script = parts.script;
  script_extensions = parts.script_extensions;
  binary = parts.binary;
  strings = parts.strings;
}

-- an element of a list of named values
abbrev pub entry_of : {A : Type 0} → String Global × A → Named A
entry_of entry = record { name = string_bytes entry.0; value = entry.1 }

-- the named sets of a list
abbrev pub sets_of : List (String Global × List Bounds) → List (Named (List Bounds))
sets_of entries = map entry_of entries

-- the named strings of a list
abbrev pub strings_of : List (String Global × Vec (Vec ℕ Global) Global) → List (Named (List (List ℕ)))
strings_of entries = map (λ entry. record { name = string_bytes entry.0; value = values_of entry.1 }) entries

-- parts with the entries of both case mappings and nothing else
abbrev pub mappings_alone : (folds uppers : List FoldEntry) → Parts
mappings_alone folds uppers = record {
  folds = folds;
  uppers = uppers;
  id_start = [];
  id_continue = [];
  general_category = [];
  script = [];
  script_extensions = [];
  binary = [];
  strings = [];
}

-- the arguments of `Tables::new`
abbrev pub parts_from :
    (folds uppers : List FoldEntry) (id_start id_continue : List Bounds)
    (general_category script script_extensions binary : List (String Global × List Bounds))
    (strings : List (String Global × Vec (Vec ℕ Global) Global))
    → Parts
parts_from folds uppers id_start id_continue general_category script script_extensions binary strings = record {
  folds = folds;
  uppers = uppers;
  id_start = id_start;
  id_continue = id_continue;
  general_category = sets_of general_category;
  script = sets_of script;
  script_extensions = sets_of script_extensions;
  binary = sets_of binary;
  strings = strings_of strings;
}

-- the parts, or if `whole` the properties of Unicode in place of theirs
abbrev pub parts_with : (whole : Bool) → Parts → Parts
parts_with whole parts = record {
  folds = parts.folds;
  uppers = parts.uppers;
  id_start = parts.id_start;
  id_continue = parts.id_continue;
  general_category = if whole then unicode_general_category else parts.general_category;
  script = if whole then unicode_script else parts.script;
  script_extensions = if whole then unicode_script_extensions else parts.script_extensions;
  binary = if whole then unicode_binary else parts.binary;
  strings = if whole then unicode_strings else parts.strings;
}

-- case mappings, and the characters of identifiers and the properties of Unicode
abbrev pub with_unicode_properties : (folds uppers : List FoldEntry) → Parts
with_unicode_properties folds uppers = record {
  folds = folds;
  uppers = uppers;
  id_start = unicode_id_start;
  id_continue = unicode_id_continue;
  general_category = unicode_general_category;
  script = unicode_script;
  script_extensions = unicode_script_extensions;
  binary = unicode_binary;
  strings = unicode_strings;
}
