use Rattle.std.proofs.Common.{List, map, subst, sym}
use Rattle.regress_found.specs.Repeated.{AreAllMatches}
use Rattle.regress.specs.Compiled.{outcomes_of, match_of}
use Rattle.regress.specs.declared.found.Match.{Match}
use Rattle.regex_lines.proofs.CostLemmas.{costly_all}
use Rattle.regex_lines.proofs.SomewhereLemmas.{nowhere_none}
use Rattle.regex_lines.proofs.searcher.Searcher.find_all.Goals as goal

pub returns-then-lacks_literal-clause-all : goal.returns-then-lacks_literal-clause-all
returns-then-lacks_literal-clause-all c =
    let text = c.args.text.now in
    let at = outcomes_of c.args.self.now.regex.now text in
    subst (λ (ms : List Match). AreAllMatches text at (map match_of ms)) (sym c.new.ensures.items)
    (nowhere_none text at (c.lacks_literal.ensures c.if-lacks_literal.true))

pub returns-clause-failed : goal.returns-clause-failed
returns-clause-failed c =
    costly_all c.args.self.now.regex.now c.args.text.now c.find_all.result c.find_all.ensures.linear c.find_all.ensures.costs
