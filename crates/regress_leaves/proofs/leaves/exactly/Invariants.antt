-- The remaining characters, from the current position.
use Rattle.std.proofs.Common.{◌≡◌, true, ◌-◌}
use Rattle.regress_prefilter.specs.OneCharacter.{takes_one}
use Rattle.regress_tree.specs.Matching.{steps}
use Rattle.regress_tree.specs.Repetition.{iterations}
use Rattle.regress_tree.specs.Steps.{MatchState, Matcher}
use Rattle.regress_tree.specs.Tree.{tree}
use Rattle.regress_leaves.specs.Subject.{subject}
use Rattle.regress_leaves.proofs.leaves.exactly.Given as goal

abbrev pub invariant-loop-i : goal.invariant-loop-i
invariant-loop-i l =
    let u = subject l.rules l.text in
    let f : Matcher = steps u.setting u.bytes u.direction (tree l.node) in
    takes_one (tree l.node) ≡ true → (s : MatchState) → s.position ≡ l.position →
    iterations (l.count - l._i) f (record s { position = l.here }) ≡ iterations l.count f s
