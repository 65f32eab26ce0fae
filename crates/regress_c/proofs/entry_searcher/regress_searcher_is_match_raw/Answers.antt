use Rattle.regress_c.proofs.HandleLemmas.{held}
use Rattle.regress_c.proofs.entry_searcher.regress_searcher_is_match_raw.Goals as goal

pub returns-clause-status : goal.returns-clause-status
returns-clause-status c = held _ c.args.handle.now.value c.take-regex.result.value c.deref.result.now c.take-regex.ensures.taken (cc) c.test_with-status.ensures.status
