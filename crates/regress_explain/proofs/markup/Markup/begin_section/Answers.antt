use Rattle.std.proofs.lemmas.Result.{on_ok_weaker}
use Rattle.regress_explain.specs.declared.markup.Element.TheVariants.{Heading, Section}
use Rattle.regress_explain.specs.declared.markup.Tag.TheVariants.{Open}
use Rattle.regress_explain.proofs.PageLemmas.{adds_element, adds_more, adds_tag}
use Rattle.regress_explain.proofs.markup.Markup.begin_section.Goals as goal

pub returns : goal.returns
returns c =
    on_ok_weaker c.element.result
    (λ added. adds_more _ _ _ (adds_tag (Open Section) _ _ c.in_ok-tag.ensures) (adds_element Heading c.args.heading.now _ _ added))
    c.element.ensures
