-- The field keeps the number.
use Rattle.regress_program.specs.Listed.{all_of}
use Rattle.regress_program.proofs.copies.Instructions.len.Goals as goal

pub returns : goal.returns
unfolding all_of
returns c = c.args.self.now.counted
