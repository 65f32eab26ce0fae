use Rattle.std.proofs.Common.{◌+◌, ◌<◌, [], IfSome, Some, length, sym, ap, ◌∙◌, subst, arith, length-append}
use Rattle.std.proofs.lemmas.List.{append-nil}
use Rattle.regress_tree.specs.Reading.{direction_if}
use Rattle.regress_program.specs.Views.{routine_in}
use Rattle.regress_tables.specs.Bits.{bits_of}
use Rattle.regress_tables.specs.Table.{evaluated, row_bits}
use Rattle.regress_tables.proofs.MemoLemmas.{known-flat, known-hit}
use Rattle.regress_tables.proofs.RepetitionLemmas.{coded-kept}
use Rattle.regress_tables.proofs.RowLemmas.{all-numbered, length-row, row-most, row-stored}
use Rattle.regress_tables.proofs.fill.fill_row.Goals as goal

pub returns-clause-known : goal.returns-clause-known
returns-clause-known c =
    let both = c.in_ok-fill_both.ensures in
    let r = routine_in c.args.input.now.code.now.program.leaves.items c.args.routine.now in
    known-flat c.args.input.now r c.args.table.now c.args.memo.now c.args.position c.requires.can c.requires.position c.requires.at c.requires.known
    c.fill_both.new.table both.grows.0 both.grows.1 both.filled

pub repeat-requires-clause-number : goal.repeat-requires-clause-number
repeat-requires-clause-number c = subst (λ o. IfSome o (λ n. n < c.args.table.now.distinct)) c.in-Some.is c.direct_row.ensures.number

pub repeat-requires-clause-whole : goal.repeat-requires-clause-whole
repeat-requires-clause-whole c = all-numbered c.args.table.now c.args.position c.requires.at (omega arith)

pub repeat-requires-clause-room : goal.repeat-requires-clause-room
repeat-requires-clause-room c =
    let t = c.args.table.now in
    omega (arith, row-most (direction_if t.backwards) t.length c.args.position c.requires.position)

pub returns-in-Some-clause-more : goal.returns-in-Some-clause-more
returns-in-Some-clause-more c =
    let t = c.args.table.now in
    let n = c.in-Some.number in
    ap length c.in_ok-repeat.ensures.evaluated ∙ length-append (evaluated t) (row_bits t n)
    ∙ ap (λ k. length (evaluated t) + k) (length-row t n (row-stored t n c.in-Some.ensures.number))

pub returns-in-Some-clause-known : goal.returns-in-Some-clause-known
returns-in-Some-clause-known c =
    let t = c.args.table.now in
    let memo = c.args.memo.now in
    let r = routine_in c.args.input.now.code.now.program.leaves.items c.args.routine.now in
    let kept = c.in-Some.ensures.kept in
    let next = c.in_ok-repeat.ensures in
    known-hit c.args.input.now r t memo c.args.position c.requires.can c.requires.position c.requires.at c.requires.known (omega arith) (Some kept.0) kept.2
    c.repeat.new.self c.in-Some.number next.shape next.rows next.bits next.evaluated c.in-Some.ensures.number kept.1

pub returns-in-Some-clause-digits : goal.returns-in-Some-clause-digits
returns-in-Some-clause-digits c =
    let t = c.args.table.now in
    let next = c.in_ok-repeat.ensures in
    coded-kept t c.repeat.new.self [] (next.bits ∙ sym (append-nil (bits_of t.bits))) next.shape c.args.memo.now.repetitions c.requires.digits

pub returns-clause-digits : goal.returns-clause-digits
returns-clause-digits c =
    let grows = c.in_ok-fill_both.ensures.grows in
    coded-kept c.args.table.now c.fill_both.new.table grows.0 grows.1.bits grows.1.shape c.args.memo.now.repetitions c.requires.digits
