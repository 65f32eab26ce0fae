-- No flags.
use Rattle.std.specs.Prelude.{false}
use Rattle.regress_base.specs.declared.types.Flags.{Flags}

-- all flags off
abbrev pub no_flags : Flags
no_flags = record { icase = false; multiline = false; dot_all = false; unicode = false; unicode_sets = false }
