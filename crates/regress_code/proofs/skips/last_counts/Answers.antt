use Rattle.std.proofs.Common.{◌-◌, length, sym, subst}
use Rattle.regress_code.specs.Skips.{AreCounts}
use Rattle.regress_code.proofs.skips.last_counts.Goals as goal

pub returns-in-Some : goal.returns-in-Some
returns-in-Some c = λ next_bytes instructions are.
    let last = length c.args.skips.now - 1 in
    subst (AreCounts next_bytes instructions last) (sym c.counts.ensures) (are last _ (sym c.in-Some.ensures.value))
