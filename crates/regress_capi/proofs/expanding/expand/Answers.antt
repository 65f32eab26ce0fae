use Rattle.regress.specs.Compiled.{match_of}
use Rattle.regress_capi.proofs.expanding.expand.Goals as goal

pub returns-in_ok-expand-in-Some : goal.returns-in_ok-expand-in-Some
returns-in_ok-expand-in-Some c = (match_of c.in-Some.found, rw c.in-Some.is at c.in_ok-found.ensures, c.in_ok-expand-in-Some.ensures)
