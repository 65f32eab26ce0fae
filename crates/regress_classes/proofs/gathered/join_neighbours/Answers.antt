-- Each call merges two neighbours or leaves both.
use Rattle.std.proofs.Common.{rules}
use Rattle.regress_classes.proofs.IntervalCollectorLemmas.{joined_canonical, joined_members}
use Rattle.regress_classes.proofs.gathered.join_neighbours.Goals as goal

pub returns-clause-members : goal.returns-clause-members
returns-clause-members c =
    joined_members _ (λ s x k b t x' k' r. search rules) (λ s x k b t x' k' r. search rules) (λ s x k b t x' k' r. search rules)
    _ _ _ c.dedup_by.ensures.filtered c.requires

pub returns-clause-canonical : goal.returns-clause-canonical
returns-clause-canonical c =
    joined_canonical _ (λ s x k b t x' k' r. search rules) (λ s x k b t x' k' r. search rules) (λ s x k b t x' k' r. search rules)
    _ _ _ c.in-Some.lowest.now c.dedup_by.ensures.filtered (search (c.is_interval.ensures, c.in-Some.ensures.item, rules))
