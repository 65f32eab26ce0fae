-- The overlap extends from the higher first to the lower last.
use Rattle.std.proofs.Common.{◌∙◌, min, max, ap, ap₂, refl}
use Rattle.std.proofs.lemmas.Bool.{false≢true}
use Rattle.regress_base.proofs.CombineLemmas.{pushed_some, pushed_none}
use Rattle.regress_base.proofs.codepointset.combine.push_overlap.Goals as goal

pub returns-in_ok-push : goal.returns-in_ok-push
returns-in_ok-push c =
    let first = ap (λ m. m.first) c.new.ensures ∙ c.max.ensures ∙ ap₂ max c.first.ensures.value c.first-then-overlaps.ensures.value in
    let last = ap (λ m. m.last) c.new.ensures ∙ c.min.ensures ∙ ap₂ min c.last.ensures.value c.last-then-overlaps.ensures.value in
    let both = c.if-overlaps.ensures.ends.0 refl in
    pushed_some c.args.list.now.items _ c.args.a c.args.b c.new.result both.0 both.1 first last c.in_ok-push.ensures.items

pub returns-else-overlaps : goal.returns-else-overlaps
returns-else-overlaps c =
    pushed_none c.args.list.now.items _ c.args.a c.args.b (λ t. false≢true (c.if-overlaps.ensures.ends.1 t)) refl
