use Rattle.regress_match.specs.Pattern.{matcher_setting, matcher_tree}
use Rattle.regress_replace.proofs.lemmas.Found.{AreAllMatches-in_order, AreAllMatches-inside}
use Rattle.test_cases.proofs.replacing.parts.Goals as goal

pub split_with_captures-requires-clause-inside : goal.split_with_captures-requires-clause-inside
split_with_captures-requires-clause-inside c =
    rw c.deref.ensures.value
    (AreAllMatches-inside (matcher_setting c.args.matcher.now) c.args.text.now c.utf8.text
    (matcher_tree c.args.matcher.now) c.requires c.in-Some.matches.items (rw c.in-Some.is at c.in_ok-matches.ensures.all))

pub split_with_captures-requires-clause-order : goal.split_with_captures-requires-clause-order
split_with_captures-requires-clause-order c =
    rw c.deref.ensures.value
    (AreAllMatches-in_order c.args.text.now _ c.in-Some.matches.items (rw c.in-Some.is at c.in_ok-matches.ensures.all))
