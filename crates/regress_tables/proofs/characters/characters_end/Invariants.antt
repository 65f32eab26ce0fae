-- The remaining characters, from the current position.
use Rattle.std.proofs.Common.{◌≡◌, ◌-◌}
use Rattle.regress_leaves.specs.Subject.{subject}
use Rattle.regress_tree.specs.Matching.{steps}
use Rattle.regress_tree.specs.Repetition.{iterations}
use Rattle.regress_tree.specs.Steps.{MatchState, Matcher}
use Rattle.regress_tree.specs.Tree.{tree}
use Rattle.regress_tables.proofs.characters.characters_end.Given as goal

abbrev pub invariant-loop-i : goal.invariant-loop-i
invariant-loop-i l =
    let u = subject l.rules l.text in
    let f : Matcher = steps u.setting u.bytes u.direction (tree l.test.node) in
    (s : MatchState) → s.position ≡ l.position → iterations (l.count - l._i) f (record s { position = l.here }) ≡ iterations l.count f s
