use Rattle.std.proofs.lemmas.Result.{on_ok_weaker}
use Rattle.regress_explain.specs.declared.markup.Element.TheVariants.{Section}
use Rattle.regress_explain.specs.declared.markup.Tag.TheVariants.{Close}
use Rattle.regress_explain.specs.Page.{IsParagraph, ShowsMarked}
use Rattle.regress_explain.proofs.PageLemmas.{adds_after, adds_tag, shows_paragraph}
use Rattle.regress_explain.proofs.matched.write_text.Goals as goal

pub returns : goal.returns
returns c =
    let marked = ShowsMarked c.args.matched.text.now 0 c.args.matched.ranges.now in
    let shown =
    shows_paragraph marked _ _ _ _ _ c.in_ok-begin_section.ensures c.in_ok-tag.ensures c.in_ok-write_marked.ensures c.in_ok-tag-2.ensures in
    let tabled = adds_after (IsParagraph marked) _ _ _ shown c.in_ok-append.ensures.anything in
    on_ok_weaker c.tag-3.result (λ added. adds_after (IsParagraph marked) _ _ _ tabled (adds_tag (Close Section) _ _ added)) c.tag-3.ensures
