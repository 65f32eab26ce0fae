use Rattle.regress_escape.proofs.lemmas.Derived.{escaped_accepted, escaped_terms}
use Rattle.regress_escape.proofs.lemmas.Matched.{literals_match, literals_match_exactly}
use Rattle.regress_escape.proofs.law.escaped_texts_match_themselves.Goals as goal

pub returns-clause-accepted : goal.returns-clause-accepted
returns-clause-accepted c = escaped_accepted

pub returns-clause-meaning : goal.returns-clause-meaning
returns-clause-meaning c = literals_match

pub returns-clause-exact : goal.returns-clause-exact
returns-clause-exact c = literals_match_exactly

pub returns-clause-inside : goal.returns-clause-inside
returns-clause-inside c = λ ctx string ts t rest plain after. escaped_terms ctx ts t rest plain after string
