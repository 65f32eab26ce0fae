use Rattle.std.proofs.Common.{arith}
use Rattle.regress_match.specs.Pattern.{matcher_setting, matcher_tree}
use Rattle.regress_match.proofs.MatcherLemmas.{found_inside}
use Rattle.regress_match.proofs.matcher.Matcher.find_within.Goals as goal

pub returns-clause-inside : goal.returns-clause-inside
returns-clause-inside c =
    let m = c.args.self.now in
    found_inside (matcher_setting m) c.args.text.now c.utf8.text (matcher_tree m) c.args.from c.in_ok-outcome.outcome c.in_ok-outcome.ensures.finds

pub returns-clause-costs : goal.returns-clause-costs
returns-clause-costs c = λ outs costs are.
    let ran = c.in_ok-outcome.ensures.costs outs costs are in
    omega (arith, ran, c.lacks_required_byte.ensures.costs)
