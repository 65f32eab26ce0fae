use Rattle.std.proofs.Common.{None, Some}
use Rattle.regress.specs.Compiled.{outcomes_of}
use Rattle.regress.proofs.FoundLemmas.{somewhere}
use Rattle.regress.proofs.searcher.Searcher.is_match.Goals as goal

pub returns-in-Some-clause-is : goal.returns-in-Some-clause-is
returns-in-Some-clause-is c =
    let text = c.args.text.now in
    somewhere text (outcomes_of c.args.regex.now text) (Some c.in-Some.found) (rw c.in-Some.is at c.in_ok-found.ensures.finds)

pub returns-in-None-clause-is : goal.returns-in-None-clause-is
returns-in-None-clause-is c =
    let text = c.args.text.now in
    somewhere text (outcomes_of c.args.regex.now text) None (rw c.in-None.is at c.in_ok-found.ensures.finds)
