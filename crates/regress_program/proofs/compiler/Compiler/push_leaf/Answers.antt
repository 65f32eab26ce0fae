use Rattle.std.proofs.lemmas.Result.{IfOk-weaker}
use Rattle.regress_program.proofs.compiler.Compiler.push_leaf.Goals as goal

pub returns-clause-spends : goal.returns-clause-spends
returns-clause-spends c = λ counts.
    IfOk-weaker c.push.result _ _ (λ at is. record { stored = is.stored; all = is.all; exact = is.exact; room = is.room; kept = is.kept }) (c.push.ensures.spends counts)
