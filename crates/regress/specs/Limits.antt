-- The default dialect and limits.
use Rattle.std.specs.Prelude.{ℕ, None, min}
use Rattle.regress_front.specs.declared.parse.Dialect.TheVariants.{Ecma}
use Rattle.regress_match.specs.Limits.{default_limits}
use Rattle.regress.specs.declared.limits.Options.{Options}

-- the dialect Ecma, a billion steps, a million nodes, 250,000 instructions, linear searches up to 4,000 and without a step limit, and 256 MiB for tables, each stack and a list
abbrev pub default_options : Options
default_options = record { dialect = Ecma; steps = 1000000000; nodes = 1000000; instructions = 250000; linear_instructions = 4000; linear_steps = None; memory = default_limits.memory }

-- the number of instructions up to which searches are linear: each matches at most 64 characters, so it is also at most the
-- number that a program may have
abbrev pub linear_limit : Options → ℕ
linear_limit options = min options.linear_instructions options.instructions
