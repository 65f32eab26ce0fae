use Rattle.std.proofs.Common.{arith}
use Rattle.std.proofs.lemmas.Option.{slice_get-get_or}
use Rattle.regress_backtrack.proofs.input.row_at.Goals as goal

pub returns-then-row-input-clause-row : goal.returns-then-row-input-clause-row
returns-then-row-input-clause-row c = c.requires.rows c.in-Some-Row.row _ (slice_get-get_or c.args.input.now.rows.now c.in-Some-Row.row _ c.if-row-input.true)

pub returns-then-row-input-clause-folds : goal.returns-then-row-input-clause-folds
returns-then-row-input-clause-folds c = c.requires.folds (omega (arith, c.if-row-input.true))
