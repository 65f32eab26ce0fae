use Rattle.std.proofs.Common.{length, nat_lt, ap, subst, ap₂, ◌∙◌}
use Rattle.regress_base.specs.Intervals.{IsCanonical}
use Rattle.regress_tree.proofs.lemmas.Brackets.{gap_count-complement}
use Rattle.regress_rewrite.proofs.simplify_brackets.is_long.Goals as goal

pub returns : goal.returns
returns c =
    let gaps = c.inverted_interval_count.ensures in
    let canonical = subst IsCanonical c.intervals.ensures.value c.intervals.ensures.canonical in
    let count = gap_count-complement c.args.set.now gaps.0 canonical gaps.1 gaps.2 in
    ap₂ nat_lt (gaps.3 ∙ count) (ap length c.intervals.ensures.value)
