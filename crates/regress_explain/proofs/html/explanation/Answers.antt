use Rattle.std.proofs.Common.{map, subst}
use Rattle.regress_explain.specs.declared.markup.Tag.TheVariants.{Close}
use Rattle.regress_explain.specs.declared.markup.Element.TheVariants.{Division, Section}
use Rattle.regress_explain.specs.Page.{AreLines, Contains}
use Rattle.regress_explain.specs.Written.{Adds, span_of}
use Rattle.regress_explain.proofs.PageLemmas.{adds_after, adds_contained, adds_element, adds_more, adds_tag}
use Rattle.regress_explain.proofs.html.explanation.Goals as goal

pub returns : goal.returns
returns c =
    let P = AreLines c.args.listing.pattern.now c.args.listing.leads.now 0 (map span_of c.args.lines.now) in
    let front = adds_more _ _ _ c.in_ok-begin_section.ensures (adds_element Division _ _ _ c.in_ok-element.ensures) in
    let shown = adds_contained P _ _ _ front c.in_ok-write_lines.ensures in
    subst (λ none. Adds (Contains P) none c.tag.new.self) c.new-page.ensures (adds_after P _ _ _ shown (adds_tag (Close Section) _ _ c.in_ok-tag.ensures))
