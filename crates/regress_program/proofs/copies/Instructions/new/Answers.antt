-- Nothing is stored.
use Rattle.std.proofs.Common.{rules}
use Rattle.regress_program.specs.Listed.{all_of}
use Rattle.regress_program.proofs.copies.Instructions.new.Goals as goal

pub returns-clause-none : goal.returns-clause-none
unfolding all_of
returns-clause-none c = search rules
