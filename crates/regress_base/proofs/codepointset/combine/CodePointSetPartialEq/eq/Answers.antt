use Rattle.std.proofs.Common.{◌≡◌, ◌∙◌, Decides, subst, ap₂}
use Rattle.std.specs.Cmp.Lexicographic.{pointwise}
use Rattle.regress_base.specs.Intervals.{bounds_eq, IsCanonical}
use Rattle.regress_base.proofs.UniqueLemmas.{Decides-lists, Decides-members}
use Rattle.regress_base.proofs.codepointset.combine.CodePointSetPartialEq.eq.Goals as goal

equal : (c : goal.After-eq) → Decides c.eq.result (c.args.self.now ≡ c.args.other.now)
equal c = Decides-lists c.args.self.now c.args.other.now c.eq.result
    (c.eq.ensures ∙ ap₂ (λ a b. pointwise bounds_eq a b) c.self.view_is c.other.view_is)

pub returns-clause-intervals : goal.returns-clause-intervals
returns-clause-intervals c = equal c

pub returns-clause-members : goal.returns-clause-members
returns-clause-members c =
    Decides-members c.args.self.now c.args.other.now c.eq.result (subst IsCanonical c.self.view_is c.self.invariant)
    (subst IsCanonical c.other.view_is c.other.invariant) (equal c)
