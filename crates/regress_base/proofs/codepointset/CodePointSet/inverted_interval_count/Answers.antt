use Rattle.std.proofs.Common.{◌+◌, ◌-◌, ◌∙◌, length, nat_lt, ap, ap₂, sym}
use mir.Val.{bool_byte}
use Rattle.regress_base.specs.Intervals.{code_point_max}
use Rattle.regress_base.proofs.GapsLemmas.{counted, counted-none}
use Rattle.regress_base.proofs.codepointset.CodePointSet.inverted_interval_count.Goals as goal

pub returns-in-Some-Some : goal.returns-in-Some-Some
returns-in-Some-Some c =
    let ivs = c.intervals-ivs.result.now in
    let before = c.from.ensures ∙ ap (λ n. bool_byte (nat_lt 0 n)) c.first-in-Some-Some.ensures.value in
    let after = c.from-in-Some-Some.ensures ∙ ap (λ n. bool_byte (nat_lt n code_point_max)) c.last-in-Some-Some.ensures.value in
    counted ivs c.args.self.now c.in-Some-Some.first.now c.in-Some-Some.last.now _ c.intervals-ivs.ensures.canonical
    c.intervals-ivs.ensures.value (sym c.in-Some-Some.ensures.value) (sym c.in-Some-Some.ensures'.value)
    (ap₂ (λ m n. length ivs - 1 + m + n) before after)

pub returns-in_default-2 : goal.returns-in_default-2
returns-in_default-2 c =
    counted-none c.intervals-ivs.result.now c.args.self.now c.intervals-ivs.ensures.value (sym c.in_default.ensures.value)
