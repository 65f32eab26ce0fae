use Rattle.std.proofs.Common.{◌≡◌, ◌+◌, ◌-◌, ◌∙◌, ap, arith}
use Rattle.regress_tree.specs.Reading.{read_before}
use Rattle.regress_leaves.proofs.ReadingLemmas as reading
use Rattle.regress_leaves.proofs.ascii.ascii_before.Goals as goal

pub returns-in-Some : goal.returns-in-Some
returns-in-Some c =
    let found = c.in-Some.ensures in
    let position = c.args.position in
    let number : position ≡ position - 1 + 1 = omega (arith, c.if-position-eq0.false) in (
      found.0,
      ap (read_before c.args.text.now) number ∙ reading.ascii_before c.args.text.now (position - 1) c.in-Some.b found.0 found.1 found.2,
    )
