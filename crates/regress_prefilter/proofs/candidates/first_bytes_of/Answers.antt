use Rattle.regress_prefilter.proofs.lemmas.Distinct.{none_distinct}
use Rattle.regress_prefilter.proofs.candidates.first_bytes_of.Goals as goal

pub returns-in-Some : goal.returns-in-Some
returns-in-Some c = λ setting bytes s off. none_distinct _ ((rw c.in-Some.is at c.first_pair.ensures) setting bytes s off)

pub returns-in-Some-first_bytes : goal.returns-in-Some-first_bytes
returns-in-Some-first_bytes c = λ setting bytes s off. none_distinct _ ((rw c.in-Some-first_bytes.is at c.first_bytes.ensures) setting bytes s off)
