use Rattle.std.proofs.Common.{◌∙◌}
use Rattle.std.proofs.lemmas.Option.{none-some}
use Rattle.regress_syntax.proofs.ReferenceLemmas.{count-is}
use Rattle.regress_syntax.proofs.references.parse_group_number.Goals as goal

pub returns-in_err-number : goal.returns-in_err-number
returns-in_err-number c = absurd (none-some _ (c.in_err-number.ensures ∙ count-is c.args.source.now c.requires))
