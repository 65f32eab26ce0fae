use Rattle.regress_tables.proofs.RowLemmas.{evaluated-none}
use Rattle.regress_tables.proofs.table.Table.new.Goals as goal

pub returns-clause-empty : goal.returns-clause-empty
returns-clause-empty c = evaluated-none _ c.in_ok-with_capacity.ensures.empty c.new.ensures.empty
