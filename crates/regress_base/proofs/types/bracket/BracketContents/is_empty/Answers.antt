use Rattle.std.proofs.Common.{rules}
use Rattle.regress_base.proofs.types.bracket.BracketContents.is_empty.Goals as goal

pub returns-then-self : goal.returns-then-self
returns-then-self c = search rules
