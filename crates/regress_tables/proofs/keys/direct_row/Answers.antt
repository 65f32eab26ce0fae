use Rattle.std.proofs.Common.{◌≡◌, ◌<◌, ◌+◌, ◌-◌, ◌*◌, Some, length, slice_get, refl, sym, ap, ◌∙◌, subst, inr, arith}
use Rattle.std.proofs.lemmas.Option.{get_or_from_slice_get, slice_get_read}
use Rattle.regress_leaves.specs.Subject.{subject}
use Rattle.regress_tree.specs.Reading.{Read, direction_if, next_character, of_bytes}
use Rattle.regress_program.specs.Below.{row_of}
use Rattle.regress_program.specs.Listed.{listed}
use Rattle.regress_program.specs.Program.{matcher_of, outcomes_by}
use Rattle.regress_program.specs.Views.{routine_in}
use Rattle.regress_code.specs.Code.{code_routines}
use Rattle.regress_code.specs.NextBytes.{Bounds}
use Rattle.regress_tables.specs.Memo.{direct_index}
use Rattle.regress_tables.specs.Rows.{Represents}
use Rattle.regress_tables.specs.declared.memo.Key.{Key}
use Rattle.regress_tables.specs.Numbers.{numbers_of}
use Rattle.regress_tables.specs.Symbols.{AreAlike, AreAlikeIn}
use Rattle.regress_tables.specs.Table.{number_of}
use Rattle.regress_tables.proofs.AsciiLemmas.{row-behind}
use Rattle.regress_tables.proofs.FarLemmas.{none-coded}
use Rattle.regress_tables.proofs.MemoLemmas.{key-some, represented}
use Rattle.regress_tables.proofs.SymbolLemmas.{alike-in}
use Rattle.regress_tables.proofs.keys.direct_row.Goals as goal

pub returns-clause-kept : goal.returns-clause-kept
returns-clause-kept c =
    let input = c.args.input.now in
    let u = subject input.rules input.text.now in
    let t = c.args.table.now in
    let memo = c.args.memo.now in
    let r = routine_in input.code.now.program.leaves.items c.args.routine.now in
    let leaves = input.code.now.program.leaves.items in
    let d = direction_if t.backwards in
    let x = c.args.position in
    let character = c.in_ok-c.c in
    let symbol = c.in_ok-symbol.symbol in
    let from = c.in_ok-from.from in
    let next = c.index.result.now in
    let read : Read = record { character = character; position = c.in_ok-c.field-0-1 } in
    let key : Key = record { symbol = symbol + 1; from = from; probes = 0 } in
    let here = c.in_ok-c.ensures in
    let some : 0 < length (numbers_of t.rows) = omega (arith, c.if-rows-eq0.false) in
    let is : next_character d (of_bytes u.bytes) x ≡ Some read = ap (λ b. next_character (direction_if b) (of_bytes u.bytes) x) c.requires.can.backwards ∙ here.1 in
    let behind = row-behind d u.bytes t.length x read is here.0 (omega (arith, some, c.requires.numbered)) c.requires.position in
    let last : row_of d t.length read.position ≡ length (numbers_of t.rows) - 1 = omega (arith, behind.0, c.requires.numbered) in
    let from_is : number_of t (row_of d t.length read.position) ≡ from =
    ap (number_of t) (last ∙ (let e : length (numbers_of t.rows) - 1 ≡ c.len-rows.result - 1 = omega arith in e))
    ∙ get_or_from_slice_get (numbers_of t.rows) (c.len-rows.result - 1) from _ (sym c.in_ok-from.ensures.value) in
    let column : from * 128 + c.from.result ≡ from * 128 + symbol = ap (λ k. from * 128 + k) c.from.ensures in
    let found : slice_get memo.direct.items (from * 128 + symbol) ≡ Some (next - 1 + 1) =
    ap (slice_get memo.direct.items) (sym column) ∙ slice_get_read memo.direct.items _ (from * 128 + c.from.result) next refl (omega arith) c.index.ensures
    ∙ ap Some (let e : next ≡ next - 1 + 1 = omega (arith, c.if-next-eq0.false) in e) in
    let at : direct_index key ≡ from * 128 + symbol = omega arith in
    let alike : AreAlikeIn r.ops character (symbol + 1 - 1) =
    alike-in leaves (listed c.args.routine.now) character (symbol + 1 - 1)
    (let e : symbol ≡ symbol + 1 - 1 = omega arith in
    subst (AreAlike leaves character) e (subst (λ ts. AreAlike ts character symbol) c.requires.tests c.in_ok-symbol.ensures.alike)) in (
      key,
      inr ((refl, omega arith, omega (arith, c.in_ok-symbol.ensures.ascii)), ap (slice_get memo.direct.items) at ∙ found),
      λ outs tables right.
          let body_of = matcher_of u.setting u.bytes (code_routines input.code.now) outs in
          let out = outs (length input.tables.now) in
          let coded = none-coded u.setting u.bytes u.direction body_of out r.ops x memo.far.items
          (λ k pc op is is_op a at. c.excludes.ensures c.if-not-excludes.false (outcomes_by u.setting u.bytes u.direction body_of out op a)
          (subst (λ p. Bounds memo.far_bytes u.direction u.bytes p (outcomes_by u.setting u.bytes u.direction body_of out op a)) at
          (c.requires.bytes k pc op is is_op body_of out a))) in
          key-some input outs r.ops t memo.far.items x key (omega (arith, c.requires.position, c.requires.can.of.text)) coded
          read here.1 (omega arith) alike behind.2
          (subst (λ k. Represents (outs (length input.tables.now)) t k read.position) from_is
          (represented (outs (length input.tables.now)) t (row_of d t.length read.position) read.position right refl behind.1 (omega (arith, last, some)))),
    )
