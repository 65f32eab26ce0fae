use Rattle.std.proofs.Common.{◌≡◌, ◌∙◌, ◌++◌, ap, codes, rules, string_bytes}
use Rattle.regress_svg.specs.Markup.{unlinked, root_tag}
use Rattle.regress_svg.proofs.MarkupLemmas.{whole}
use Rattle.regress_svg.proofs.sheet.Sheet.finish.Goals as goal

pub returns-clause-document : goal.returns-clause-document
returns-clause-document c =
    let inside = string_bytes c.self.inside.text in
    let empty : c.self.inside.depth ≡ 0 = search rules in
    let all = c.in_ok-push_str.ensures.bytes ∙ ap (λ bytes. bytes ++ c.deref.result.now) c.in_ok-text.ensures
    ∙ ap (λ bytes. root_tag unlinked c.self.inside.width c.self.inside.height ++ bytes) c.deref.ensures in
    whole c.self.inside.depth c.self.inside.width c.self.inside.height inside _ empty c.self.invariant
    (c.in_ok-push_str-2.ensures.bytes ∙ ap (λ bytes. bytes ++ codes "</svg>") all)

pub returns-clause-written : goal.returns-clause-written
returns-clause-written c =
    let root = root_tag unlinked c.self.inside.width c.self.inside.height in
    let view : root ++ string_bytes c.self.inside.text ≡ c.args.self.written = search rules in
    let all = c.in_ok-push_str.ensures.bytes ∙ ap (λ bytes. bytes ++ c.deref.result.now) c.in_ok-text.ensures ∙ ap (λ bytes. root ++ bytes) c.deref.ensures in
    c.in_ok-push_str-2.ensures.bytes ∙ ap (λ bytes. bytes ++ codes "</svg>") (all ∙ view)
