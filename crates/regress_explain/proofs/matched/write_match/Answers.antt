use Rattle.std.proofs.Common.{◌≡◌, ◌∙◌, ℕ, List, [], ◌++◌, ap, append_assoc, append-nil}
use Rattle.std.proofs.lemmas.Result.{IfOk-equal}
use Rattle.regress_svg.specs.Escape.{escaped_text}
use Rattle.regress_explain.specs.declared.markup.Element.TheVariants.{Mark}
use Rattle.regress_explain.specs.declared.markup.Tag.TheVariants.{Open, Close}
use Rattle.regress_explain.specs.Page.{element_bytes, tag_bytes}
use Rattle.regress_explain.specs.Shown.{shown_text}
use Rattle.regress_explain.proofs.matched.write_match.Goals as goal

grouped : (a b c d e : List ℕ) → (a ++ b) ++ (c ++ d ++ e) ≡ a ++ (b ++ (c ++ (d ++ (e ++ []))))
grouped a b c d e = simp (append_assoc, append-nil)

pub returns : goal.returns
returns c =
    let found = shown_text c.args.found.now in
    let shown : c.deref.result.now ≡ found = c.deref.ensures ∙ c.in_ok-shown_text.ensures in
    IfOk-equal c.element.result _ _ _ (rw shown at c.element.ensures)
    (ap (λ all. all ++ element_bytes Mark found) c.in_ok-write_shown.ensures
    ∙ grouped c.args.page.now (escaped_text (shown_text c.args.before.now)) (tag_bytes (Open Mark)) (escaped_text found) (tag_bytes (Close Mark)))
