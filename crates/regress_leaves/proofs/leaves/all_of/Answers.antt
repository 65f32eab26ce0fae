use Rattle.std.proofs.Common.{arith, ◌≡◌, ◌<◌, ◌∙◌, length, ap, sym, None, Some}
use Rattle.std.specs.Option.{option_map}
use Rattle.regress_base.specs.Table.{denotes}
use Rattle.regress_tree.specs.Reading.{next_character, of_bytes, direction_if}
use Rattle.regress_tree.specs.References.{in_order}
use Rattle.regress_unicode.specs.TableOf.{table_of}
use Rattle.regress_leaves.specs.Leaves.{read_of}
use Rattle.regress_leaves.proofs.lemmas.Leaves.{order_none, order_no, order_yes, length-in_order}
use Rattle.regress_leaves.proofs.leaves.all_of.Goals as goal

pub returns-in_err-x : goal.returns-in_err-x
returns-in_err-x c = λ s at.
    let d = direction_if c.args.rules.backwards in
    let r = of_bytes c.args.text.now in
    let cs = in_order d c.args.characters.now in
    let none : next_character d r c.loop-i.here ≡ None = sym c.next_read.ensures ∙ ap (option_map read_of) c.in_err-x.was in
    rw c.from_residual.ensures
    (sym (order_none d r _ cs s c.loop-i.i c.loop-i.here (omega (arith, length-in_order d c.args.characters.now, c.loop-i-test.true)) none
    (c.loop-i.invariant s at)))

pub returns-then-not-denotes : goal.returns-then-not-denotes
returns-then-not-denotes c = λ s at.
    let d = direction_if c.args.rules.backwards in
    let r = of_bytes c.args.text.now in
    let same = denotes (table_of c.args.rules.known.tables.now) c.args.icase c.args.rules.flags.unicode in
    let cs = in_order d c.args.characters.now in
    let read = read_of (c.in_ok-x.x, c.in_ok-x.to) in
    let some : next_character d r c.loop-i.here ≡ Some read = sym c.next_read.ensures ∙ ap (option_map read_of) c.in_ok-x.was in
    let within : c.loop-i.i < length cs = omega (arith, length-in_order d c.args.characters.now, c.loop-i-test.true) in
    let tested = ap (λ k. same k c.in_ok-x.x) (sym c.character_in_order-c.ensures) ∙ sym c.denotes.ensures ∙ c.if-not-denotes.true in
    sym (order_no d r same cs s c.loop-i.i c.loop-i.here within read some tested (c.loop-i.invariant s at))

pub loop-i-preserved : goal.loop-i-preserved
loop-i-preserved c = λ s at.
    let d = direction_if c.args.rules.backwards in
    let r = of_bytes c.args.text.now in
    let same = denotes (table_of c.args.rules.known.tables.now) c.args.icase c.args.rules.flags.unicode in
    let cs = in_order d c.args.characters.now in
    let read = read_of (c.in_ok-x.x, c.in_ok-x.to) in
    let some : next_character d r c.loop-i.here ≡ Some read = sym c.next_read.ensures ∙ ap (option_map read_of) c.in_ok-x.was in
    let within : c.loop-i.i < length cs = omega (arith, length-in_order d c.args.characters.now, c.loop-i-test.true) in
    let tested = ap (λ k. same k c.in_ok-x.x) (sym c.character_in_order-c.ensures) ∙ sym c.denotes.ensures ∙ c.if-not-denotes.false in
    order_yes d r same cs s c.loop-i.i c.loop-i.here within read some tested (c.loop-i.invariant s at)
