use Rattle.std.proofs.Common.{string_bytes}
use Rattle.regress_explain.specs.Page.{picture}
use Rattle.regress_explain.proofs.PageLemmas.{adds_if}
use Rattle.regress_explain.proofs.markup.Markup.picture.Goals as goal

pub invariant_of-self : goal.invariant_of-self
invariant_of-self c =
    let is = picture c.args.picture.now.lines.items (string_bytes c.args.picture.now.text) c.requires in
    adds_if _ _ _ _ is c.push_str.ensures.bytes c.deref.ensures c.self.invariant
