use Rattle.std.proofs.Common.{◌∙◌}
use Rattle.regress_explain.specs.Page.{text}
use Rattle.regress_explain.proofs.PageLemmas.{adds_if}
use Rattle.regress_explain.proofs.markup.Markup.text.Goals as goal

pub invariant_of-self : goal.invariant_of-self
invariant_of-self c =
    adds_if _ _ _ _ (text c.args.text.now) c.push_str.ensures.bytes (c.deref.ensures ∙ c.in_ok-text.ensures.ok) c.self.invariant
