use Rattle.std.proofs.Common.{◌≡◌, ◌+◌, ◌-◌, ◌∙◌, ap, arith, sym, Some}
use Rattle.regress_tree.specs.Reading.{Read, read_before}
use Rattle.regress_leaves.proofs.ReadingLemmas.{ascii_before, before_start}
use Rattle.regress_leaves.proofs.reading.read_before.Goals as goal

pub returns-then-position-eq0 : goal.returns-then-position-eq0
returns-then-position-eq0 c = sym (ap (read_before c.args.text.now) c.if-position-eq0.true ∙ before_start c.args.text.now)

pub returns-in-Some : goal.returns-in-Some
returns-in-Some c =
    let found = c.in-Some.ensures in
    let position = c.args.position in
    let here : Read = record { character = c.in-Some.b; position = position - 1 } in
    let number : position ≡ position - 1 + 1 = omega (arith, c.if-position-eq0.false) in
    ap (λ x. Some (record here { character = x })) c.from.ensures
    ∙ sym (ap (read_before c.args.text.now) number ∙ ascii_before c.args.text.now (position - 1) c.in-Some.b found.0 found.1 found.2)
