use Rattle.regress_program.proofs.compiler.Compiler.+up_to.Given as goal

abbrev pub decreases-up_to : goal.decreases-up_to
decreases-up_to l = l.count
