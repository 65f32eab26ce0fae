use Rattle.std.proofs.Common.{subst, arith}
use Rattle.std.proofs.lemmas.Grind.{common_steps}
use Rattle.regress_base.specs.Intervals.{IsCanonical}
use Rattle.regress_base.proofs.UniqueLemmas.{Decides-none}
use Rattle.regress_base.proofs.codepointset.CodePointSet.is_empty.Goals as goal

pub returns-clause-members : goal.returns-clause-members
returns-clause-members c =
    Decides-none c.args.self.now c.is_empty.result (subst IsCanonical c.self.view_is c.self.invariant)
    (λ passed. grind (arith, common_steps), λ none. grind (arith, common_steps))
