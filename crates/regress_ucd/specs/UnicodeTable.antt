-- The complete table of Unicode: the case mappings of the constants, and the properties.
use Rattle.std.specs.Prelude.{map}
use Rattle.regress_base.specs.Table.{Table}
use Rattle.regress_unicode.specs.Parts.{Parts, table_from, with_unicode_properties}
use Rattle.regress_ucd.specs.declared.data.cases.TheConstants.{FOLDS, UPPERS}
use Rattle.regress_ucd.specs.Data.{mapping}

-- the parts of the table
unfoldable pub unicode_parts : Parts
unicode_parts = with_unicode_properties (map mapping FOLDS.now) (map mapping UPPERS.now)

-- the complete table of Unicode
unfoldable pub unicode_table : Table
unicode_table = table_from unicode_parts
