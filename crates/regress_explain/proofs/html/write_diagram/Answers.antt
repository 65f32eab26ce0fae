use Rattle.std.proofs.Common.{string_bytes}
use Rattle.std.proofs.lemmas.Result.{on_ok_weaker}
use Rattle.regress_explain.specs.declared.markup.Element.TheVariants.{Section}
use Rattle.regress_explain.specs.declared.markup.Tag.TheVariants.{Close}
use Rattle.regress_explain.specs.Page.{IsPicture}
use Rattle.regress_explain.proofs.PageLemmas.{adds_after, adds_tag, shows_picture}
use Rattle.regress_explain.proofs.html.write_diagram.Goals as goal

pub returns : goal.returns
returns c =
    let lines = c.args.picture.now.lines.items in
    let shown =
    shows_picture lines (string_bytes c.args.picture.now.text) c.requires _ _ _ _ _ c.in_ok-begin_section.ensures c.in_ok-tag.ensures
    c.in_ok-picture.ensures c.in_ok-tag-2.ensures in
    on_ok_weaker c.tag-3.result (λ added. adds_after (IsPicture lines) _ _ _ shown (adds_tag (Close Section) _ _ added)) c.tag-3.ensures
