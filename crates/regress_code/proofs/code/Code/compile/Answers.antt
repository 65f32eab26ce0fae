use Rattle.std.proofs.Common.{ap, ◌∙◌}
use Rattle.regress_tree.specs.Tree.{tree}
use Rattle.regress_program.specs.Linear.{is_linear}
use Rattle.regress_program.specs.Tidy.{has_no_back_reference}
use Rattle.regress_program.specs.Search.{routines_of}
use Rattle.regress_code.proofs.CandidateLemmas.{pattern_begins}
use Rattle.regress_code.proofs.code.Code.compile.Goals as goal

pub new-requires : goal.new-requires
new-requires c =
    pattern_begins c.candidates_of-candidates.result (routines_of c.in_ok-program.program) (tree c.args.regex.now.node)
    c.in_ok-program.ensures.pattern c.candidates_of-candidates.ensures

pub returns-clause-linear : goal.returns-clause-linear
returns-clause-linear c = ap is_linear c.in_ok-code.ensures.routines ∙ c.in_ok-program.ensures.linear

pub returns-clause-plain : goal.returns-clause-plain
returns-clause-plain c = ap has_no_back_reference c.in_ok-code.ensures.routines ∙ c.in_ok-program.ensures.plain

pub returns-clause-tidy : goal.returns-clause-tidy
returns-clause-tidy c = λ well. c.in_ok-code.ensures.tidy ∙ c.in_ok-program.ensures.known well
