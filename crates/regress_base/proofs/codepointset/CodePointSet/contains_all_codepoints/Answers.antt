use Rattle.std.proofs.Common.{◌∙◌, [], ◌∷◌, ap, ap₂, subst}
use Rattle.std.specs.Cmp.Lexicographic.{pointwise}
use Rattle.regress_base.specs.Intervals.{bounds_eq, IsCanonical}
use Rattle.regress_base.proofs.UniqueLemmas.{Decides-lists, Decides-whole}
use Rattle.regress_base.proofs.codepointset.CodePointSet.contains_all_codepoints.Goals as goal

pub returns : goal.returns
returns c =
    let compared = c.eq.ensures
    ∙ ap₂ (λ a b. pointwise bounds_eq a b) c.intervals.ensures.value (c.as_slice.ensures ∙ ap (λ b. b ∷ []) c.new.ensures) in
    Decides-whole c.args.self.now c.eq.result (subst IsCanonical c.intervals.ensures.value c.intervals.ensures.canonical)
    (Decides-lists c.args.self.now _ c.eq.result compared)
