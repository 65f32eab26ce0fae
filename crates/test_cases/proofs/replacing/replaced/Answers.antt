use Rattle.regress_match.specs.Pattern.{matcher_setting, matcher_tree}
use Rattle.regress_replace.proofs.lemmas.Order.{AreInOrder-take}
use Rattle.regress_replace.proofs.lemmas.Found.{AreAllMatches-in_order, AreAllMatches-inside, inside-take}
use Rattle.test_cases.proofs.replacing.replaced.Goals as goal

pub replace_matches-requires-clause-inside : goal.replace_matches-requires-clause-inside
replace_matches-requires-clause-inside c =
    rw (c.deref.ensures.value, c.truncate.ensures.items)
    (inside-take c.args.text.now c.args.first c.in-Some.matches.items
    (AreAllMatches-inside (matcher_setting c.args.matcher.now) c.args.text.now c.utf8.text
    (matcher_tree c.args.matcher.now) c.requires c.in-Some.matches.items (rw c.in-Some.is at c.in_ok-matches.ensures.all)))

pub replace_matches-requires-clause-order : goal.replace_matches-requires-clause-order
replace_matches-requires-clause-order c =
    rw (c.deref.ensures.value, c.truncate.ensures.items)
    (AreInOrder-take c.args.first 0 c.in-Some.matches.items
    (AreAllMatches-in_order c.args.text.now _ c.in-Some.matches.items (rw c.in-Some.is at c.in_ok-matches.ensures.all)))
