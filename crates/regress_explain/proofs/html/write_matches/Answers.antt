use Rattle.regress_explain.proofs.PageLemmas.{adds_nothing}
use Rattle.regress_explain.proofs.html.write_matches.Goals as goal

pub returns-in-None : goal.returns-in-None
returns-in-None c = rw c.in-None.is (adds_nothing _ _ tt)
