-- The default limits.
use Rattle.std.specs.Prelude.{None}
use Rattle.regress_match.specs.declared.limits.Limits.{Limits}

-- 250,000 instructions, linear searches up to 4,000 and without a step limit, and 256 MiB for tables, each stack and a list
abbrev pub default_limits : Limits
default_limits = record { instructions = 250000; linear_instructions = 4000; linear_steps = None; memory = 268435456 }
