use Rattle.std.proofs.Common.{true, length, slice_get, slice_index_or, refl, ap, ◌∙◌, subst, arith}
use Rattle.std.proofs.lemmas.List.{length-replicate}
use Rattle.regress_program.specs.Views.{routine_in}
use Rattle.regress_tables.specs.declared.slots.Slot.TheVariants as slots
use Rattle.regress_tables.specs.declared.walker.Walker.{Walker}
use Rattle.regress_tables.specs.Searchable.{program_in}
use Rattle.regress_tables.specs.Slots.{AreInside}
use Rattle.regress_code.specs.Code.{code_tidy}
use Rattle.regress_program.proofs.lemmas.Strict.{tabled-tidy}
use Rattle.regress_tables.proofs.FirstLemmas.{clean-first, first-ends, first-forwards, first-none, first-some, first-steps, inside-first, same-way, table-at}
use Rattle.regress_tables.proofs.first.first_outcome.Goals as goal

pub cell-requires-clause-pc : goal.cell-requires-clause-pc
cell-requires-clause-pc c =
    (table-at c.args.filled c.args.index c.index-routine.result.now c.index-filled-index.result c.requires.searchable c.requires.index c.index-routine.ensures
    c.index-filled-index.is).entry

pub cell-requires-clause-position : goal.cell-requires-clause-position
cell-requires-clause-position c =
    let at = table-at c.args.filled c.args.index c.index-routine.result.now c.index-filled-index.result c.requires.searchable c.requires.index
    c.index-routine.ensures c.index-filled-index.is in
    omega (arith, c.requires.position, at.of.text)

pub returns-then-not-cell-clause-first : goal.returns-then-not-cell-clause-first
returns-then-not-cell-clause-first c =
    let at = table-at c.args.filled c.args.index c.index-routine.result.now c.index-filled-index.result c.requires.searchable c.requires.index
    c.index-routine.ensures c.index-filled-index.is in
    first-none c.args.filled c.args.index c.args.groups c.args.position _ _ at c.requires.position c.cell.result c.cell.ensures c.if-not-cell.true

pub walk-requires-clause-can : goal.walk-requires-clause-can
walk-requires-clause-can c =
    let at = table-at c.args.filled c.args.index c.index-routine.result.now c.index-filled-index.result c.requires.searchable c.requires.index
    c.index-routine.ensures c.index-filled-index.is in
    record { is = ap (slice_get (program_in c.args.filled)) at.before ∙ at.is; of = at.of; backwards = same-way _ _ at.of.direction }

pub walk-requires-clause-pc : goal.walk-requires-clause-pc
walk-requires-clause-pc c =
    (table-at c.args.filled c.args.index c.index-routine.result.now c.index-filled-index.result c.requires.searchable c.requires.index c.index-routine.ensures
    c.index-filled-index.is).entry

pub walk-requires-clause-position : goal.walk-requires-clause-position
walk-requires-clause-position c =
    let at = table-at c.args.filled c.args.index c.index-routine.result.now c.index-filled-index.result c.requires.searchable c.requires.index
    c.index-routine.ensures c.index-filled-index.is in
    omega (arith, c.requires.position, at.of.text)

pub walk-requires-clause-clean : goal.walk-requires-clause-clean
walk-requires-clause-clean c =
    let r = routine_in c.args.filled.input.code.now.program.leaves.items c.index-routine.result.now in
    let f = c.args.filled in
    let at = table-at f c.args.index c.index-routine.result.now c.index-filled-index.result c.requires.searchable c.requires.index c.index-routine.ensures
    c.index-filled-index.is in
    clean-first (program_in f) c.args.index r c.args.groups c.in_ok-unset_slots.field-0.items
    (tabled-tidy (code_tidy f.input.code.now) (program_in f) f.input.code.now.program.tidy_if c.requires.searchable.tabled) at.is c.in_ok-unset_slots.ensures.items

pub returns-clause-first : goal.returns-clause-first
returns-clause-first c = λ outs solves.
    let f = c.args.filled in
    let at = table-at f c.args.index c.index-routine.result.now c.index-filled-index.result c.requires.searchable c.requires.index c.index-routine.ensures
    c.index-filled-index.is in
    let r = routine_in f.input.code.now.program.leaves.items c.index-routine.result.now in
    let w : Walker = record { pc = r.entry; moved = true; position = c.args.position; slots = c.in_ok-unset_slots.field-0; begins = c.new.result } in
    (first-some f c.args.index c.args.groups c.args.position r _ at c.requires.position _ at.before w c.walk.new.walker
    (record { pc = refl; moved = refl; position = refl; unset = c.in_ok-unset_slots.ensures.items; begins = c.new.ensures.items })
    c.cell.result c.cell.ensures c.if-not-cell.false c.in_ok-walk.field-0 c.in_ok-walk.ensures.ends outs solves).1

pub returns-clause-end : goal.returns-clause-end
returns-clause-end c =
    let f = c.args.filled in
    let at = table-at f c.args.index c.index-routine.result.now c.index-filled-index.result c.requires.searchable c.requires.index c.index-routine.ensures
    c.index-filled-index.is in
    let r = routine_in f.input.code.now.program.leaves.items c.index-routine.result.now in
    let t = slice_index_or f.input.tables.now c.args.index c.index-filled-index.result in
    let v = c.walk.new.walker in
    let unset = c.in_ok-unset_slots.ensures.items in
    let w : Walker = record { pc = r.entry; moved = true; position = c.args.position; slots = c.in_ok-unset_slots.field-0; begins = c.new.result } in
    let ends = first-ends f c.args.index c.args.groups c.args.position r _ at c.requires.position _ at.before w v
    (record { pc = refl; moved = refl; position = refl; unset = unset; begins = c.new.ensures.items }) c.cell.result c.cell.ensures c.if-not-cell.false
    c.in_ok-walk.field-0 c.in_ok-walk.ensures.ends in
    let inside = c.in_ok-walk.ensures.captures f.inner (omega (arith, c.requires.searchable.inner)) (inside-first _ _ f.inner c.args.groups _ unset) in
    record {
      inside = omega (arith, c.in_ok-walk.ensures.inside ends, at.of.text);
      captures = subst (λ n. AreInside c.args.index n f.inner v.slots.items) at.of.text (subst (λ i. AreInside i t.length f.inner v.slots.items) at.before inside);
      count = c.in_ok-walk.ensures.count ∙ ap length unset ∙ length-replicate c.args.groups slots.Unset;
    }

pub returns-clause-steps : goal.returns-clause-steps
returns-clause-steps c =
    let f = c.args.filled in
    let at = table-at f c.args.index c.index-routine.result.now c.index-filled-index.result c.requires.searchable c.requires.index c.index-routine.ensures
    c.index-filled-index.is in
    let r = routine_in f.input.code.now.program.leaves.items c.index-routine.result.now in
    let w : Walker = record { pc = r.entry; moved = true; position = c.args.position; slots = c.in_ok-unset_slots.field-0; begins = c.new.result } in
    let ends = first-ends f c.args.index c.args.groups c.args.position r _ at c.requires.position _ at.before w c.walk.new.walker
    (record { pc = refl; moved = refl; position = refl; unset = c.in_ok-unset_slots.ensures.items; begins = c.new.ensures.items }) c.cell.result c.cell.ensures
    c.if-not-cell.false c.in_ok-walk.field-0 c.in_ok-walk.ensures.ends in
    first-steps f c.args.index r _ at c.args.position _ c.args.steps.now c.walk.new.steps c.requires.position (c.in_ok-walk.ensures.steps ends)

pub returns-clause-forwards : goal.returns-clause-forwards
returns-clause-forwards c = λ r' is forward.
    let f = c.args.filled in
    let at = table-at f c.args.index c.index-routine.result.now c.index-filled-index.result c.requires.searchable c.requires.index c.index-routine.ensures
    c.index-filled-index.is in
    let r = routine_in f.input.code.now.program.leaves.items c.index-routine.result.now in
    let v = c.walk.new.walker in
    let w : Walker = record { pc = r.entry; moved = true; position = c.args.position; slots = c.in_ok-unset_slots.field-0; begins = c.new.result } in
    let ends = first-ends f c.args.index c.args.groups c.args.position r _ at c.requires.position _ at.before w v
    (record { pc = refl; moved = refl; position = refl; unset = c.in_ok-unset_slots.ensures.items; begins = c.new.ensures.items }) c.cell.result c.cell.ensures
    c.if-not-cell.false c.in_ok-walk.field-0 c.in_ok-walk.ensures.ends in
    first-forwards f c.args.index r r' _ at is forward c.args.position v.pc v.moved v.position c.args.steps.now c.walk.new.steps c.requires.position
    (c.in_ok-walk.ensures.inside ends) (c.in_ok-walk.ensures.falls ends) (c.in_ok-walk.ensures.steps ends)
