use Rattle.std.proofs.Common.{chars}
use Rattle.regress_svg.proofs.EscapeLemmas.{plain_texts}
use Rattle.regress_svg.proofs.law.texts_hold_no_markup.Goals as goal

pub returns : goal.returns
returns c = λ text. plain_texts (chars text)
