use Rattle.std.proofs.Common.{rules}
use Rattle.regress_base.proofs.util.equal_range.equal_range_by.Goals as goal

pub returns-clause-equal : goal.returns-clause-equal
returns-clause-equal g c = search rules
