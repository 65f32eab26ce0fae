use Rattle.regress_encoding.proofs.CountLemmas.{trees_counted}
use Rattle.regress_encoding.proofs.parts.push_cat.Goals as goal

pub returns : goal.returns
returns c = rw (trees_counted c.args.parts.now) c.push_counted.ensures
