use Rattle.std.proofs.Common.{◌≡◌, ◌<◌, ◌++◌, codes, string_bytes, rules}
use Rattle.regress_svg.specs.Markup.{unlinked, root_tag}
use Rattle.regress_svg.proofs.MarkupLemmas.{closes, drawn_more}
use Rattle.regress_svg.proofs.sheet.Sheet.close_group.Goals as goal

pub invariant_of-self-2 : goal.invariant_of-self-2
invariant_of-self-2 c =
    let some : 0 < c.self.inside.depth = search rules in
    closes c.self.inside.depth (string_bytes c.self.inside.text) _ some c.in_ok-push_str.ensures.bytes c.self.invariant

pub returns-clause-written : goal.returns-clause-written
returns-clause-written c =
    let old = string_bytes c.self.inside.text in
    let root = root_tag unlinked c.self.inside.width c.self.inside.height in
    let view : c.args.self.now.written ≡ root ++ old = search rules in
    drawn_more root old _ (codes "</g>") _ view c.in_ok-push_str.ensures.bytes
