use Rattle.std.proofs.Common.{rules}
use Rattle.regress_parse.proofs.fault.Error.try_clone.Goals as goal

pub returns : goal.returns
returns c = search rules
