use Rattle.std.proofs.Common.{◌≡◌, ◌∙◌, ℕ, List, ◌++◌, ap, append_assoc}
use Rattle.std.proofs.lemmas.Result.{IfOk-equal}
use Rattle.regress_svg.specs.Escape.{escaped_text}
use Rattle.regress_explain.specs.declared.markup.Tag.TheVariants.{Open, Close}
use Rattle.regress_explain.specs.Page.{tag_bytes}
use Rattle.regress_explain.proofs.markup.Markup.element.Goals as goal

grouped : (a b c d : List ℕ) → ((a ++ b) ++ c) ++ d ≡ a ++ (b ++ c ++ d)
grouped a b c d = simp append_assoc

pub returns : goal.returns
returns c =
    let close = tag_bytes (Close c.args.element) in
    let content = escaped_text c.args.text.now in
    IfOk-equal c.tag-2.result _ _ _ c.tag-2.ensures
    (ap (λ all. all ++ close) (c.in_ok-text.ensures ∙ ap (λ all. all ++ content) c.in_ok-tag.ensures)
    ∙ grouped c.args.self.now (tag_bytes (Open c.args.element)) content close)
