-- AreCopies has at most one proof, so instructions can keep it.
use Rattle.std.specs.Prelude.{List}
use Rattle.std.proofs.Props.{props}
use Rattle.regress_program.specs.Copies.{AreCopies}
use Rattle.regress_program.specs.declared.copies.Copies.{Copies}
use Rattle.regress_program.specs.declared.instruction.Instruction.{Instruction}

pub AreCopies-prop : (stored : List Instruction) (copies : List Copies) → IsProp (AreCopies stored copies)
AreCopies-prop stored copies = hlevel props
