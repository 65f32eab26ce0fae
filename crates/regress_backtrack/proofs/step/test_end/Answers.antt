use Rattle.regress_found.specs.Found.{state}
use Rattle.std.proofs.Common.{refl}
use Rattle.regress_leaves.specs.Subject.{subject}
use Rattle.regress_tree.specs.Tree.{tree}
use Rattle.regress_backtrack.proofs.step.test_end.Goals as goal

pub returns-in-Some-clause-to : goal.returns-in-Some-clause-to
returns-in-Some-clause-to c =
    let u = subject c.args.input.now.rules c.args.input.now.text.now in
    let t = c.args.test.now in
    c.in-Some.ensures (tree t.node) t.begins u.setting (state c.args.captures.now c.args.position) refl
