use Rattle.regress_leaves.proofs.ReadingLemmas as reading
use Rattle.regress_leaves.proofs.ascii.ascii_after.Goals as goal

pub returns-in-Some : goal.returns-in-Some
returns-in-Some c =
    let found = c.in-Some.ensures in
    (found.0, reading.ascii_after c.args.text.now c.args.position c.in-Some.b found.0 found.1 found.2)
