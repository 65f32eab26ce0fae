use Rattle.std.proofs.Common.{◌+◌, ◌-◌, ◌*◌, ◌<◌, [], IfSome, Some, length, take, inl, inr, sym, ap, ◌∙◌, subst, arith, length-append}
use Rattle.std.proofs.lemmas.List.{append-nil}
use Rattle.regress_tree.specs.Reading.{direction_if}
use Rattle.regress_program.specs.Views.{routine_in}
use Rattle.regress_tables.specs.Bits.{bits_of}
use Rattle.regress_tables.specs.Memo.{IsKept}
use Rattle.regress_tables.specs.Repetitions.{IsCoded, SameRepetitions}
use Rattle.regress_tables.specs.Table.{evaluated, row_bits}
use Rattle.regress_tables.proofs.FillLemmas.{SameShape-trans}
use Rattle.regress_tables.proofs.KeptLemmas.{kept-same, repetitions-trans}
use Rattle.regress_tables.proofs.MemoLemmas.{known-same, known-flat, known-hit, known-miss, shared-bits}
use Rattle.regress_tables.proofs.RepetitionLemmas.{coded-kept}
use Rattle.regress_tables.proofs.RowLemmas.{all-numbered, length-row, one-row, row-most, row-stored}
use Rattle.regress_tables.proofs.fill.fill_shared.Goals as goal

pub repeat-requires-clause-number : goal.repeat-requires-clause-number
repeat-requires-clause-number c = subst (λ o. IfSome o (λ row. row < c.args.table.now.distinct)) c.in-Some.is c.find.ensures.row

pub repeat-requires-clause-whole : goal.repeat-requires-clause-whole
repeat-requires-clause-whole c = all-numbered c.args.table.now c.args.position c.requires.at c.requires.numbered

pub repeat-requires-clause-room : goal.repeat-requires-clause-room
repeat-requires-clause-room c =
    let t = c.args.table.now in
    omega (arith, c.requires.numbered, row-most (direction_if t.backwards) t.length c.args.position c.requires.position)

pub returns-in-Some-clause-more : goal.returns-in-Some-clause-more
returns-in-Some-clause-more c =
    let t = c.args.table.now in
    let n = c.in-Some.number in
    let less = subst (λ o. IfSome o (λ row. row < t.distinct)) c.in-Some.is c.find.ensures.row in
    ap length c.in_ok-repeat.ensures.evaluated ∙ length-append (evaluated t) (row_bits t n)
    ∙ ap (λ k. length (evaluated t) + k) (length-row t n (row-stored t n less))

pub returns-in-Some-clause-digits : goal.returns-in-Some-clause-digits
returns-in-Some-clause-digits c =
    let t = c.args.table.now in
    let next = c.in_ok-repeat.ensures in
    coded-kept t c.repeat.new.self [] (next.bits ∙ sym (append-nil (bits_of t.bits))) next.shape c.key_at-key.new.memo.repetitions c.key_at-key.ensures.digits

pub returns-then-table-clause-digits : goal.returns-then-table-clause-digits
returns-then-table-clause-digits c =
    let grows = c.in_ok-fill_both.ensures.grows in
    coded-kept c.args.table.now c.fill_both.new.table grows.0 grows.1.bits grows.1.shape c.key_at-key.new.memo.repetitions c.key_at-key.ensures.digits

pub returns-clause-digits : goal.returns-clause-digits
returns-clause-digits c =
    let t = c.args.table.now in
    let t' = c.fill_both.new.table in
    let u = c.share.new.self in
    let grows = c.in_ok-fill_both.ensures.grows in
    let shared = c.in_ok-share.ensures in
    subst (IsCoded u) (sym (c.add.ensures.repetitions ∙ c.first_equal-number.ensures.repetitions))
    (coded-kept t u (take (u.distinct * (2 * t'.width) - length (bits_of t.bits)) grows.0)
    (shared-bits t t' u c.args.position grows.0 c.requires.at c.requires.numbered grows.1 shared.bits shared.distinct)
    (SameShape-trans t t' u grows.1.shape shared.shape) c.key_at-key.new.memo.repetitions c.key_at-key.ensures.digits)

pub returns-in-Some-clause-known : goal.returns-in-Some-clause-known
returns-in-Some-clause-known c =
    let t = c.args.table.now in
    let memo = c.args.memo.now in
    let n = c.in-Some.number in
    let r = routine_in c.args.input.now.code.now.program.leaves.items c.args.routine.now in
    let next = c.in_ok-repeat.ensures in
    let same = c.key_at-key.ensures.same in
    let key = c.key_at-key.result in
    known-same c.args.input.now r c.repeat.new.self memo c.key_at-key.new.memo same
    (known-hit c.args.input.now r t memo c.args.position c.requires.can c.requires.position c.requires.at c.requires.known c.requires.numbered key c.key_at-key.ensures.key
    c.repeat.new.self n next.shape next.rows next.bits next.evaluated
    (subst (λ o. IfSome o (λ row. row < t.distinct)) c.in-Some.is c.find.ensures.row)
    (kept-same memo c.key_at-key.new.memo same key n (subst (λ o. IfSome o (IsKept c.key_at-key.new.memo key)) c.in-Some.is c.find.ensures.found)))

pub returns-then-table-clause-known : goal.returns-then-table-clause-known
returns-then-table-clause-known c =
    let both = c.in_ok-fill_both.ensures in
    let r = routine_in c.args.input.now.code.now.program.leaves.items c.args.routine.now in
    known-same c.args.input.now r c.fill_both.new.table c.args.memo.now c.key_at-key.new.memo c.key_at-key.ensures.same
    (known-flat c.args.input.now r c.args.table.now c.args.memo.now c.args.position c.requires.can c.requires.position c.requires.at c.requires.known
    c.fill_both.new.table both.grows.0 both.grows.1 both.filled)

pub first_equal-number-requires-clause-one : goal.first_equal-number-requires-clause-one
first_equal-number-requires-clause-one c =
    let t = c.args.table.now in
    let both = c.in_ok-fill_both.ensures in
    one-row t c.fill_both.new.table both.grows.0 both.grows.1 (all-numbered t c.args.position c.requires.at c.requires.numbered) both.more

pub first_equal-number-requires-clause-inside : goal.first_equal-number-requires-clause-inside
first_equal-number-requires-clause-inside c =
    let t = c.args.table.now in
    let grows = c.in_ok-fill_both.ensures.grows.1 in
    omega (arith, grows.distinct, grows.shape.length, t.few, c.requires.numbered, row-most (direction_if t.backwards) t.length c.args.position c.requires.position)

pub share-requires-clause-one : goal.share-requires-clause-one
share-requires-clause-one c =
    let t = c.args.table.now in
    let both = c.in_ok-fill_both.ensures in
    one-row t c.fill_both.new.table both.grows.0 both.grows.1 (all-numbered t c.args.position c.requires.at c.requires.numbered) both.more

pub share-requires-clause-room : goal.share-requires-clause-room
share-requires-clause-room c =
    let t = c.args.table.now in
    let grows = c.in_ok-fill_both.ensures.grows.1 in
    omega (
      arith,
      ap length grows.rows,
      grows.shape.length,
      c.requires.numbered,
      row-most (direction_if t.backwards) t.length c.args.position c.requires.position,
    )

pub returns-clause-shape : goal.returns-clause-shape
returns-clause-shape c =
    SameShape-trans c.args.table.now c.fill_both.new.table c.share.new.self c.in_ok-fill_both.ensures.shape c.in_ok-share.ensures.shape

pub returns-clause-more : goal.returns-clause-more
returns-clause-more c = ap length c.in_ok-share.ensures.evaluated ∙ c.in_ok-fill_both.ensures.more

pub returns-clause-known : goal.returns-clause-known
returns-clause-known c =
    let t = c.args.table.now in
    let memo = c.args.memo.now in
    let n = c.first_equal-number.result in
    let both = c.in_ok-fill_both.ensures in
    let same = c.key_at-key.ensures.same in
    let found = c.first_equal-number.ensures.rows in
    let shared = c.in_ok-share.ensures in
    let r = routine_in c.args.input.now.code.now.program.leaves.items c.args.routine.now in
    known-miss c.args.input.now r t memo c.args.position c.requires.can c.requires.position c.requires.at c.requires.known c.requires.numbered c.key_at-key.result c.key_at-key.ensures.key
    c.fill_both.new.table c.share.new.self c.add.new.self n both.grows.0 both.grows.1 both.filled shared.shape shared.rows shared.bits shared.distinct shared.evaluated
    (c.add.ensures.far ∙ found.far ∙ same.far) (c.add.ensures.bytes ∙ found.bytes ∙ same.bytes) (c.add.ensures.tests ∙ found.tests ∙ same.tests)
    (subst (SameRepetitions memo.repetitions) (sym c.add.ensures.repetitions)
    (repetitions-trans memo.repetitions c.key_at-key.new.memo.repetitions c.first_equal-number.new.memo.repetitions same.repetitions found.repetitions))
    (λ k m is. elim (c.add.ensures.kept k m is) [
      | inl old ↦ inl (kept-same memo c.key_at-key.new.memo same (Some k) m (kept-same c.key_at-key.new.memo c.first_equal-number.new.memo found (Some k) m old))
      | inr new ↦ inr new
    ])
