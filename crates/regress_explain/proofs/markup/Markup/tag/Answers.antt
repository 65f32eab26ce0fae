use Rattle.std.proofs.Common.{◌∙◌}
use Rattle.regress_explain.specs.Page.{tag}
use Rattle.regress_explain.proofs.PageLemmas.{adds_if}
use Rattle.regress_explain.proofs.markup.Markup.tag.Goals as goal

pub invariant_of-self : goal.invariant_of-self
invariant_of-self c =
    adds_if _ _ _ _ (tag c.args.tag) c.push_str.ensures.bytes (c.deref.ensures ∙ c.in_ok-tag.ensures) c.self.invariant
