-- Each call joins two neighbours or leaves both unchanged.
use Rattle.std.proofs.Common.{rules}
use Rattle.regress_normalize.proofs.CatLemmas.{deduped_packs, deduped_empties}
use Rattle.regress_normalize.proofs.cat.join_neighbours.Goals as goal

pub returns-clause-packs : goal.returns-clause-packs
returns-clause-packs c = deduped_packs _ (λ s x k b t x' k' r. search rules) _ _ _ c.dedup_by.ensures.filtered

pub returns-clause-empties : goal.returns-clause-empties
returns-clause-empties c = deduped_empties _ (λ s x k b t x' k' r. search rules) _ _ _ c.dedup_by.ensures.filtered
