use Rattle.std.proofs.Common.{subst, sym}
use Rattle.std.specs.Prelude.{◌↔◌, IsTrue}
use Rattle.regress.specs.Compiled.{outcomes_of}
use Rattle.regress.specs.Searched.{MatchesSomewhere}
use Rattle.regress.proofs.FoundLemmas.{somewhere}
use Rattle.regress.proofs.pattern.Regex.is_match.Goals as goal

pub returns-clause-is : goal.returns-clause-is
returns-clause-is c =
    let text = c.args.text.now in
    let at = outcomes_of c.args.self.now text in
    subst (λ b. IsTrue b ↔ MatchesSomewhere text at) (sym c.is_some.ensures) (somewhere text at c.in_ok-found.found c.in_ok-found.ensures.finds)
