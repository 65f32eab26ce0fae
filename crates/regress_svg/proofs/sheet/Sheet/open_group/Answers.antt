use Rattle.std.proofs.Common.{◌≡◌, ◌∙◌, ◌++◌, ap, arith, rules, string_bytes}
use Rattle.regress_svg.specs.Markup.{group_tag, unlinked, root_tag}
use Rattle.regress_svg.proofs.MarkupLemmas.{depth_within, drawn_more, opens}
use Rattle.regress_svg.proofs.sheet.Sheet.open_group.Goals as goal

pub overflow_add-self : goal.overflow_add-self
overflow_add-self c = omega (arith, depth_within c.self.inside.depth (string_bytes c.self.inside.text) c.self.invariant)

pub invariant_of-self-2 : goal.invariant_of-self-2
invariant_of-self-2 c =
    let old = string_bytes c.self.inside.text in
    let added = c.in_ok-push_str.ensures.bytes ∙ ap (λ tag. old ++ tag) (c.deref.ensures ∙ c.in_ok-tag.ensures.ok) in
    opens c.self.inside.depth old _ c.args.class.now added c.self.invariant

pub returns-clause-written : goal.returns-clause-written
returns-clause-written c =
    let old = string_bytes c.self.inside.text in
    let root = root_tag unlinked c.self.inside.width c.self.inside.height in
    let view : c.args.self.now.written ≡ root ++ old = search rules in
    drawn_more root old _ (group_tag c.args.class.now) _ view
    (c.in_ok-push_str.ensures.bytes ∙ ap (λ tag. old ++ tag) (c.deref.ensures ∙ c.in_ok-tag.ensures.ok))
