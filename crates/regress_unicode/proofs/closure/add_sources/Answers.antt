use Rattle.std.proofs.Common.{rules}
use Rattle.regress_unicode.proofs.closure.add_sources.Goals as goal

pub returns-clause-members : goal.returns-clause-members
returns-clause-members c = search rules
