-- All members are between the first and the last one.
use Rattle.std.proofs.Common.{◌∙◌, sym, arith}
use Rattle.regress_base.proofs.CutLemmas.{span_ordered, within_span}
use Rattle.regress_base.proofs.WithinLemmas.{pair}
use Rattle.std.proofs.Common.{ap₂}
use Rattle.regress_base.proofs.codepointset.combine.span.Goals as goal

pub new-requires-clause-ordered : goal.new-requires-clause-ordered
new-requires-clause-ordered c =
    let ordered = span_ordered c.args.intervals.now c.in-Some-Some.first.now c.in-Some-Some.last.now c.requires
    (sym c.in-Some-Some.ensures.value) (sym c.in-Some-Some.ensures'.value) in
    let first = c.first-in-Some-Some.ensures.value in
    let last = c.last-in-Some-Some.ensures.value in
    omega arith

pub returns-in-Some-Some-clause-some : goal.returns-in-Some-Some-clause-some
returns-in-Some-Some-clause-some c = λ n member.
    within_span c.args.intervals.now c.in-Some-Some.first.now c.in-Some-Some.last.now c.new.result n c.requires
    (sym c.in-Some-Some.ensures.value) (sym c.in-Some-Some.ensures'.value)
    (c.new.ensures ∙ ap₂ pair c.first-in-Some-Some.ensures.value c.last-in-Some-Some.ensures.value) member
