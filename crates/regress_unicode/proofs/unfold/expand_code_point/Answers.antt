use Rattle.std.proofs.Common.{rules}
use Rattle.regress_unicode.proofs.unfold.expand_code_point.Goals as goal

pub returns-else-unicode-clause-listing : goal.returns-else-unicode-clause-listing
returns-else-unicode-clause-listing c = search rules
