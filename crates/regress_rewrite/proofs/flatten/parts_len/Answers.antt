use Rattle.std.proofs.Common.{sym, ◌∙◌}
use Rattle.regress_rewrite.proofs.SpliceLemmas.{parts_len-Cat}
use Rattle.regress_rewrite.proofs.flatten.parts_len.Goals as goal

pub returns-in-Cat : goal.returns-in-Cat
returns-in-Cat c = c.len.ensures ∙ sym (parts_len-Cat c.args.part.now c.in-Cat.inner c.in-Cat.is)
