use Rattle.regress_c.proofs.HandleLemmas.{held}
use Rattle.regress_c.proofs.entry_replaced.regress_replaced_write_raw.Goals as goal

pub returns-clause-status : goal.returns-clause-status
returns-clause-status c = held _ c.args.replaced.now.value c.take-text.result.value c.deref.result.now c.take-text.ensures.taken (cc) c.write-status.ensures
