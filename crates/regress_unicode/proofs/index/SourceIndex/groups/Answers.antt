-- The slot of the target has its bits.
use Rattle.std.proofs.Common.{rules}
use Rattle.regress_unicode.specs.SourceIndex.{has_group}
use Rattle.regress_unicode.proofs.index.SourceIndex.groups.Goals as goal

pub returns : goal.returns
unfolding has_group
returns c bit = search rules
