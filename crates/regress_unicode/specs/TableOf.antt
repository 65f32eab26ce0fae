-- The table that a value of `Tables` represents.
use Rattle.regress_unicode.specs.declared.Tables.{Tables}
use Rattle.regress_base.specs.Table.{Table}
use Rattle.regress_unicode.specs.Parts.{Parts, parts_from, parts_with, table_from}

-- the parts of the value
abbrev pub parts_of : Tables → Parts
parts_of t =
    parts_with t.whole
    (parts_from t.folds.items t.uppers.items t.id_start t.id_continue t.general_category.items t.script.items
    t.script_extensions.items t.binary.items t.strings.items)

-- the table with these parts
abbrev pub table_of : Tables → Table
table_of t = table_from (parts_of t)
