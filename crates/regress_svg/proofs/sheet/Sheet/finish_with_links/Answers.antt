use Rattle.std.proofs.Common.{◌≡◌, ◌∙◌, ◌++◌, ap, rules, string_bytes}
use Rattle.regress_svg.specs.Links.{document}
use Rattle.regress_svg.specs.Markup.{root_tag}
use Rattle.regress_svg.proofs.LinkLemmas.{finished}
use Rattle.regress_svg.proofs.sheet.Sheet.finish_with_links.Goals as goal

pub returns : goal.returns
returns c =
    let empty : c.self.inside.depth ≡ 0 = search rules in
    let inside = string_bytes c.self.inside.text in
    let begun = c.in_ok-push_str.ensures.bytes ∙ ap (λ bytes. bytes ++ c.deref.result.now) c.in_ok-text.ensures
    ∙ ap (λ bytes. root_tag document c.self.inside.width c.self.inside.height ++ bytes) c.deref.ensures in
    record {
      document = finished c.self.inside.depth c.args.count c.self.inside.width c.self.inside.height inside _ _ _ _ empty c.self.invariant begun
          c.in_ok-lines.ensures c.in_ok-push_str-2.ensures.bytes;
      lines = c.in_ok-lines.ensures.below;
    }
