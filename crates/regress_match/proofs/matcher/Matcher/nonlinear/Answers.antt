use Rattle.std.proofs.Common.{ap, ◌∙◌}
use Rattle.std.specs.Prelude.{is_none}
use Rattle.regress_code.specs.Code.{code_groups, code_routines}
use Rattle.regress_match.specs.Matcher.{nonlinear_by}
use Rattle.regress_match.proofs.MatcherLemmas.{linear-unless}
use Rattle.regress_match.proofs.matcher.Matcher.nonlinear.Goals as goal

pub returns-clause-linear : goal.returns-clause-linear
returns-clause-linear c =
    ap is_none (c.nonlinear_by.ensures ∙ ap (λ reason. nonlinear_by reason c.args.self.now.within) c.nonlinear.ensures)
    ∙ linear-unless (code_groups c.args.self.now.code) (code_routines c.args.self.now.code) c.args.self.now.within
