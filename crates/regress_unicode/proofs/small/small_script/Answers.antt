use Rattle.std.proofs.Common.{rules}
use Rattle.regress_unicode.proofs.small.small_script.Goals as goal

pub returns : goal.returns
returns c = search rules
