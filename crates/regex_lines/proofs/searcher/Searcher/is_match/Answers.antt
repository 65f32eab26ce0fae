use Rattle.regex_lines.proofs.CostLemmas.{costly_one}
use Rattle.regex_lines.proofs.searcher.Searcher.is_match.Goals as goal

pub returns-clause-failed : goal.returns-clause-failed
returns-clause-failed c =
    costly_one c.args.self.now.regex.now c.args.text.now c.is_match.result c.is_match.ensures.linear c.is_match.ensures.costs
