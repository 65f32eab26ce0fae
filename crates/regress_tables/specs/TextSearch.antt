-- A text that is prepared for searches with a program.
use Rattle.std.specs.Prelude.{ℕ, List}
use Rattle.regress_program.specs.Compiled.{total}
use Rattle.regress_code.specs.Code.{code_groups, code_routines}
use Rattle.regress_code.specs.declared.code.Code.{Code}
use Rattle.regress_tables.specs.Memory.{stored_bytes}
use Rattle.regress_tables.specs.declared.text.TextSearch.{TextSearch}
use Rattle.regress_unicode.specs.declared.Tables.{Tables}

-- the program with which a text is searched
abbrev pub searched_code : TextSearch → Code
searched_code s = s.linear.code.now

-- the number of its instructions
abbrev pub searched_size : TextSearch → ℕ
searched_size s = total (code_routines (searched_code s))

-- the number of bytes that its tables store
abbrev pub searched_bytes : TextSearch → ℕ
searched_bytes s = stored_bytes s.tables.items

-- the case mappings of the search
abbrev pub searched_tables : TextSearch → Tables
searched_tables s = s.linear.known.tables.now

-- the text that is searched
abbrev pub searched_text : TextSearch → List ℕ
searched_text s = s.text.now

-- the number of groups of its pattern
abbrev pub searched_groups : TextSearch → ℕ
searched_groups s = code_groups (searched_code s)
