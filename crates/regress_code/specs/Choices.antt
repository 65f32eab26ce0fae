-- Choices between an alternative and the instruction before.
use Rattle.std.specs.Prelude.{ℕ, ◌+◌, ◌==◌, Option, Some, None, if◌then◌else◌}
use Rattle.regress_program.specs.declared.instruction.Instruction.{Instruction}
use Rattle.regress_program.specs.declared.instruction.Instruction.TheVariants as insts

-- the preferred alternative of a choice with the index `pc`, if the other one is the instruction before the choice
abbrev pub preferred : (pc : ℕ) → Option Instruction → Option ℕ
preferred pc (Some (insts.Split first second)) = if second + 1 == pc then Some first else None
preferred pc i = None
