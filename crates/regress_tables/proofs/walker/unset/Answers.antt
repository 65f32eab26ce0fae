use Rattle.regress_tables.proofs.SlotLemmas.{resolved-unset}
use Rattle.regress_tables.proofs.walker.unset.Goals as goal

pub returns-clause-resolved : goal.returns-clause-resolved
returns-clause-resolved c = λ capture_of.
    resolved-unset capture_of c.args.start c.args.end c.args.slots.now.items c.set_slots.new.slots.items c.set_slots.ensures
