use Rattle.std.proofs.Common.{rules}
use Rattle.regress_unicode.proofs.fold_range.FoldRange.apply.Goals as goal

pub returns-then-is_multiple_of : goal.returns-then-is_multiple_of
returns-then-is_multiple_of c = search rules
