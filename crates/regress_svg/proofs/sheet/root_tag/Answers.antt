use Rattle.std.proofs.Common.{◌∙◌, append_assoc}
use Rattle.std.proofs.lemmas.Result.{IfOk-weaker}
use Rattle.regress_svg.proofs.sheet.root_tag.Goals as goal

pub returns : goal.returns
returns c = IfOk-weaker c.format.result _ _ (λ tag is. is ∙ simp append_assoc) c.format.ensures.ok
