-- What a program is.
use Rattle.std.specs.Prelude.{ℕ, Bool, List}
use Rattle.regress_base.specs.declared.types.Flags.{Flags}
use Rattle.regress_program.specs.Listed.{stored_total}
use Rattle.regress_program.specs.declared.counts.Counts.{Counts}
use Rattle.regress_program.specs.declared.program.Program.{Program}
use Rattle.regress_program.specs.Compiled.{total}
use Rattle.regress_program.specs.Program.{Routine}
use Rattle.regress_program.specs.Views.{program_in}

-- the routines of a program
abbrev pub routines_of : Program → List Routine
routines_of p = program_in p.leaves.items p.routines.items

-- the flags of its pattern
abbrev pub flags_of : Program → Flags
flags_of p = p.flags

-- the number of groups of a program
abbrev pub groups_of : Program → ℕ
groups_of p = p.groups

-- how its loops were compiled
abbrev pub counts_of : Program → Counts
counts_of p = p.counts

-- its lookarounds that capture are known to begin with their groups unset
abbrev pub is_known_tidy : Program → Bool
is_known_tidy p = p.tidy

-- the number of instructions of a program
abbrev pub instructions_of : Program → ℕ
instructions_of p = total (routines_of p)

-- the number of those that are stored
abbrev pub stored_instructions_of : Program → ℕ
stored_instructions_of p = stored_total p.routines.items
