use Rattle.std.proofs.Common.{◌+◌, ◌∙◌, ap, sym, Some}
use Rattle.regress_tree.specs.Reading.{Read}
use Rattle.regress_leaves.proofs.ReadingLemmas.{ascii_after}
use Rattle.regress_leaves.proofs.reading.read_after.Goals as goal

pub returns-in-Some : goal.returns-in-Some
returns-in-Some c =
    let found = c.in-Some.ensures in
    let here : Read = record { character = c.in-Some.b; position = c.args.position + 1 } in
    ap (λ x. Some (record here { character = x })) c.from.ensures
    ∙ sym (ascii_after c.args.text.now c.args.position c.in-Some.b found.0 found.1 found.2)
