-- If the ends overlap, the higher first is in both intervals.
use Rattle.std.proofs.Common.{subst, arith, rules}
use Rattle.std.proofs.lemmas.Bool.Decides.{nat_tests}
use Rattle.regress_base.specs.Intervals.{IsInterval}
use Rattle.regress_base.proofs.WithinLemmas.{shared_from_ends, ends_from_shared}
use Rattle.regress_base.proofs.interval.Interval.overlaps.Goals as goal

pub returns-then-self-other-clause-shared : goal.returns-then-self-other-clause-shared
returns-then-self-other-clause-shared c =
    let mine = subst IsInterval c.self.view_is c.self.invariant in
    let theirs = subst IsInterval c.other.view_is c.other.invariant in (
      λ reaches. shared_from_ends c.args.self c.args.other mine theirs (search rules) (grind (arith, nat_tests)),
      λ shared. let ends = ends_from_shared c.args.self c.args.other shared in grind (arith, nat_tests),
    )

pub returns-else-self-other-clause-shared : goal.returns-else-self-other-clause-shared
returns-else-self-other-clause-shared c = (
  λ reaches. absurd (grind (arith, nat_tests)),
  λ shared. let ends = ends_from_shared c.args.self c.args.other shared in
      grind (arith, nat_tests),
)
