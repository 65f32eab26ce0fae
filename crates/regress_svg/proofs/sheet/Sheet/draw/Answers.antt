use Rattle.std.proofs.Common.{◌≡◌, ◌∙◌, ◌++◌, ap, rules, string_bytes}
use Rattle.regress_svg.specs.Markup.{element_bytes, unlinked, root_tag}
use Rattle.regress_svg.proofs.MarkupLemmas.{drawn_more, draws}
use Rattle.regress_svg.proofs.sheet.Sheet.draw.Goals as goal

pub invariant_of-self-2 : goal.invariant_of-self-2
invariant_of-self-2 c =
    let old = string_bytes c.self.inside.text in
    let added = c.in_ok-push_str.ensures.bytes ∙ ap (λ markup. old ++ markup) (c.deref.ensures ∙ c.in_ok-markup.ensures.ok) in
    draws c.self.inside.depth old _ c.args.element added c.self.invariant

pub returns-clause-written : goal.returns-clause-written
returns-clause-written c =
    let old = string_bytes c.self.inside.text in
    let root = root_tag unlinked c.self.inside.width c.self.inside.height in
    let view : c.args.self.now.written ≡ root ++ old = search rules in
    drawn_more root old _ (element_bytes c.args.element) _ view
    (c.in_ok-push_str.ensures.bytes ∙ ap (λ markup. old ++ markup) (c.deref.ensures ∙ c.in_ok-markup.ensures.ok))
