use Rattle.std.proofs.Common.{rules}
use Rattle.regress_base.proofs.codepointset.CodePointSet.add_set.Goals as goal

pub returns-clause-members : goal.returns-clause-members
returns-clause-members c = search rules

pub returns-in_err-joined-clause-err : goal.returns-in_err-joined-clause-err
returns-in_err-joined-clause-err c = search rules
