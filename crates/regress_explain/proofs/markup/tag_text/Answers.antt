use Rattle.std.proofs.Common.{◌∙◌, append_assoc}
use Rattle.std.proofs.lemmas.Result.{IfOk-weaker}
use Rattle.regress_explain.proofs.markup.tag_text.Goals as goal

pub returns-in-Part : goal.returns-in-Part
returns-in-Part c = rw c.in-Part.is
    (IfOk-weaker c.format-in-Part.result _ _ (λ text is. is ∙ simp append_assoc) c.format-in-Part.ensures.ok)

pub returns-in-Line : goal.returns-in-Line
returns-in-Line c = rw c.in-Line.is
    (IfOk-weaker c.format-in-Line.result _ _ (λ text is. is ∙ simp append_assoc) c.format-in-Line.ensures.ok)

pub returns-in-To : goal.returns-in-To
returns-in-To c = rw c.in-To.is
    (IfOk-weaker c.format-in-To.result _ _ (λ text is. is ∙ simp append_assoc) c.format-in-To.ensures.ok)

pub returns-in-ToPicture : goal.returns-in-ToPicture
returns-in-ToPicture c = rw c.in-ToPicture.is
    (IfOk-weaker c.format-in-ToPicture.result _ _ (λ text is. is ∙ simp append_assoc) c.format-in-ToPicture.ensures.ok)
