use Rattle.std.proofs.Common.{◌≡◌, ◌+◌, ◌≤◌, arith}
use Rattle.regress_match.specs.Iterated.{step_limit, steps_remaining}
use Rattle.regress.specs.Searched.{searched_factor}
use Rattle.regress.proofs.FoundLemmas.{map_none}
use Rattle.regress.proofs.search.Matches.steps.Goals as goal

pub returns-clause-limited : goal.returns-clause-limited
returns-clause-limited c =
    let m = c.args.self.now.matches in
    map_none (searched_factor c.args.self.now) (c.steps.result + steps_remaining m ≡ step_limit m) (c.steps.result ≤ step_limit m)
    (λ (sum : c.steps.result + steps_remaining m ≡ step_limit m). omega (arith, sum)) c.steps.ensures.limited
