use Rattle.regress_tables.proofs.leftmost.may_start.Goals as goal

pub returns-else-has_first-clause-none : goal.returns-else-has_first-clause-none
returns-else-has_first-clause-none c = λ none on groups. c.has_first.ensures.none none groups
