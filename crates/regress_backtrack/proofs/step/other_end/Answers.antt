use Rattle.regress_found.specs.Found.{state}
use Rattle.std.proofs.Common.{refl}
use Rattle.regress_leaves.specs.Subject.{subject}
use Rattle.regress_backtrack.proofs.step.other_end.Goals as goal

pub returns-in-Some-clause-to : goal.returns-in-Some-clause-to
returns-in-Some-clause-to c =
    let u = subject c.args.input.now.rules c.args.input.now.text.now in
    c.in-Some.ensures u.setting u.direction (state c.args.captures.now c.args.position) refl
