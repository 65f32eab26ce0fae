use Rattle.regress_backtrack.specs.Memory.{entries_in}
use Rattle.regress_match.specs.Memory.{memory_of}
use Rattle.regress_match.proofs.matcher.Matcher.find_before_tables.Goals as goal

pub returns-in-Err-TooMuchMemory-clause-within : goal.returns-in-Err-TooMuchMemory-clause-within
returns-in-Err-TooMuchMemory-clause-within c = λ _. c.new.ensures.within (entries_in (memory_of c.args.self.now))
