-- The setting of patterns over all of Unicode.
use Rattle.regress_front.specs.Steps.{Setting}
use Rattle.regress_front.specs.declared.types.Flags.{Flags}
use Rattle.regress_ucd.specs.UnicodeTable.{unicode_table}

-- the flags, and the table of all of Unicode
abbrev pub unicode_setting : Flags → Setting
unicode_setting flags = record { flags = flags; table = unicode_table }
