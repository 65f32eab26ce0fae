use Rattle.std.proofs.Common.{arith}
use Rattle.regress_match.proofs.MatcherLemmas.{linear_steps}
use Rattle.regress_match.proofs.matcher_matches.MatcherMatches.steps.Goals as goal

pub returns-clause-linear : goal.returns-clause-linear
returns-clause-linear c =
    let s = c.args.self.now in
    linear_steps s.matcher.now s.text.now s.limit s.remaining s.from s.searched s.search s.kept c.saturating_add.result s.short
    (omega (arith, c.saturating_add.ensures))
