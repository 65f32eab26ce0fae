use Rattle.std.proofs.Common.{◌≡◌, ◌∙◌, ap, sym, None, Some}
use Rattle.std.specs.Option.{option_map}
use Rattle.regress_tree.specs.Reading.{next_character, of_bytes, direction_if}
use Rattle.regress_tree.specs.Tree.{tree}
use Rattle.regress_prefilter.specs.OneCharacter.{test_of}
use Rattle.regress_leaves.specs.Leaves.{read_of}
use Rattle.regress_leaves.proofs.lemmas.Leaves.{one_none, one_yes, one_no}
use Rattle.regress_leaves.proofs.leaves.one_character.Goals as goal

pub returns-in_err-c : goal.returns-in_err-c
returns-in_err-c c = λ s at.
    let d = direction_if c.args.rules.backwards in
    let r = of_bytes c.args.text.now in
    let none : next_character d r s.position ≡ None =
    ap (next_character d r) at ∙ sym c.next_read.ensures ∙ ap (option_map read_of) c.in_err-c.was in
    rw c.from_residual.ensures (sym (one_none d r (test_of (tree c.args.node.now)) s none))

pub returns-then-accepts : goal.returns-then-accepts
returns-then-accepts c = λ s at.
    let d = direction_if c.args.rules.backwards in
    let r = of_bytes c.args.text.now in
    let read = read_of (c.in_ok-c.c, c.in_ok-c.to) in
    let some : next_character d r s.position ≡ Some read =
    ap (next_character d r) at ∙ sym c.next_read.ensures ∙ ap (option_map read_of) c.in_ok-c.was in
    sym (one_yes d r (test_of (tree c.args.node.now)) s read some (sym (c.accepts.ensures) ∙ c.if-accepts.true))

pub returns-else-accepts : goal.returns-else-accepts
returns-else-accepts c = λ s at.
    let d = direction_if c.args.rules.backwards in
    let r = of_bytes c.args.text.now in
    let read = read_of (c.in_ok-c.c, c.in_ok-c.to) in
    let some : next_character d r s.position ≡ Some read =
    ap (next_character d r) at ∙ sym c.next_read.ensures ∙ ap (option_map read_of) c.in_ok-c.was in
    sym (one_no d r (test_of (tree c.args.node.now)) s read some (sym (c.accepts.ensures) ∙ c.if-accepts.false))
