use Rattle.std.proofs.Common.{subst, rules}
use Rattle.regress_base.specs.Intervals.{IsCanonical}
use Rattle.regress_base.proofs.GapsLemmas.{complement_twice}
use Rattle.regress_base.proofs.codepointset.CodePointSet.inverted.Goals as goal

pub returns-clause-twice : goal.returns-clause-twice
returns-clause-twice c = λ back canonical home.
    complement_twice c.args.self.now c.from_sorted_disjoint_intervals.result back (subst IsCanonical c.self.view_is c.self.invariant)
    canonical (search rules) home
