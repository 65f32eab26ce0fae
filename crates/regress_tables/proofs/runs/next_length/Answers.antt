use Rattle.std.proofs.Common.{◌≤◌, arith, length}
use Rattle.regress_program.specs.Cost.{bytes_ahead}
use Rattle.regress_tree.specs.Reading.{direction_if}
use Rattle.regress_tables.proofs.RunLemmas.{ahead-forwards, ahead-backwards}
use Rattle.regress_tables.proofs.runs.next_length.Goals as goal

pub bytes_on-next-requires-clause-forwards : goal.bytes_on-next-requires-clause-forwards
bytes_on-next-requires-clause-forwards c = λ is.
    let text = c.args.input.text.now in
    let ahead : 1 ≤ bytes_ahead (direction_if c.args.input.rules.backwards) (length text) c.args.position = omega (arith, c.bytes_ahead.ensures, c.if-bytes_ahead-eq0.false) in
    omega (arith, ahead-forwards c.args.input.rules.backwards (length text) c.args.position 1 ahead c.requires.position is)

pub bytes_on-next-requires-clause-backwards : goal.bytes_on-next-requires-clause-backwards
bytes_on-next-requires-clause-backwards c = λ is.
    let text = c.args.input.text.now in
    let ahead : 1 ≤ bytes_ahead (direction_if c.args.input.rules.backwards) (length text) c.args.position = omega (arith, c.bytes_ahead.ensures, c.if-bytes_ahead-eq0.false) in
    ahead-backwards c.args.input.rules.backwards (length text) c.args.position 1 ahead is
