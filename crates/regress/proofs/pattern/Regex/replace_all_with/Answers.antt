use Rattle.std.proofs.Common.{map}
use Rattle.regress_replace.proofs.lemmas.Found.{AreAllMatches-in_order}
use Rattle.regress.specs.Compiled.{outcomes_of, match_of}
use Rattle.regress.proofs.pattern.Regex.replace_all_with.Goals as goal

pub replace_each-requires-clause-order : goal.replace_each-requires-clause-order
replace_each-requires-clause-order g c =
    rw c.deref.ensures.value
    (AreAllMatches-in_order c.args.text.now (outcomes_of c.args.self.now c.args.text.now) (map match_of c.in_ok-matches.matches.items)
    c.in_ok-matches.ensures.all)
