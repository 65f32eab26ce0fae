use Rattle.regress_c.proofs.HandleLemmas.{held}
use Rattle.regress_c.proofs.entry_matches.regress_matches_next_raw.Goals as goal

pub returns : goal.returns
returns c = record {
  status =
      held _ c.args.matches.now.value c.take-list.result.value c.deref_mut.result.now c.take-list.ensures.taken (cc)
      (c.write_next-status.new.self, (cc), c.write_next-status.ensures.status);
}
