use Rattle.regex_command.proofs.SizeLemmas.{own_warning}
use Rattle.regex_command.proofs.size.size_warning.Goals as goal

pub returns-in-Ok-clause-warning : goal.returns-in-Ok-clause-warning
returns-in-Ok-clause-warning c =
    rw c.instructions_warning.ensures
    (own_warning _ _ _ c.in-Ok.regex c.in-Ok.ensures.own c.nonlinear.result c.nonlinear.ensures.reason)
