-- Every value of `Tables` represents a table that satisfies the invariants of tables.
use Rattle.regress_unicode.specs.declared.Tables.{Tables}
use Rattle.regress_base.specs.Table.{IsValidTable}
use Rattle.regress_unicode.specs.TableOf.{table_of}

pub table_of-lawful : (t : Tables) → IsValidTable (table_of t)
table_of-lawful t = t.sound.lawful
