use Rattle.std.proofs.Common.{◌≡◌, ◌<◌, ◌∙◌, ◌++◌, ap, arith, length, rules, string_bytes}
use Rattle.regress_svg.proofs.LinkLemmas.{one_link}
use Rattle.regress_svg.proofs.link.write_links.Goals as goal

pub loop-area-preserved : goal.loop-area-preserved
loop-area-preserved c =
    let area = c.area-item.result in
    let text = string_bytes c.loop-area.text in
    let number : c.len.result ≡ length c.loop-area.lines.items = search rules in
    let below : area.line < c.args.count = omega arith in
    let link = rw (c.deref.ensures, c.deref-in-loop-area.ensures) at c.in_ok-link.ensures.ok in
    let added = c.in_ok-push_str.ensures.bytes ∙ ap (λ all. text ++ all) (c.deref-in-loop-area-2.ensures ∙ link) in
    one_link c.args.count c.len.result c.loop-area.lines.items _ _ text _ area number below added c.in_ok-push.ensures.items c.loop-area.invariant
