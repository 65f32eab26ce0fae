use Rattle.std.proofs.Common.{slice_index_or, sym, ap, ◌∙◌, subst, inl, inr, arith}
use Rattle.regress_tables.specs.Searchable.{HasNoneIn}
use Rattle.regress_tables.specs.Table.{number_of}
use Rattle.regress_tables.proofs.FirstLemmas.{first-none, none-in, table-at}
use Rattle.regress_tables.proofs.first.has_first.Goals as goal

pub row_of-requires : goal.row_of-requires
row_of-requires c =
    let at = table-at c.args.filled c.args.index c.index.result.now c.index-filled-index.result c.requires.searchable c.requires.index c.index.ensures
    c.index-filled-index.is in
    omega (arith, c.requires.position, at.of.text)

pub returns-then-contains-clause-none : goal.returns-then-contains-clause-none
returns-then-contains-clause-none c = λ none groups.
    let at = table-at c.args.filled c.args.index c.index.result.now c.index-filled-index.result c.requires.searchable c.requires.index c.index.ensures
    c.index-filled-index.is in
    c.requires.failed _ (c.contains.ensures c.if-contains.true) _ groups c.args.position at.table c.requires.position
    (sym (c.number_of-number.ensures.value ∙ ap (number_of (slice_index_or c.args.filled.input.tables.now c.args.index c.index-filled-index.result)) c.row_of.ensures.value))

pub cell-requires-clause-pc : goal.cell-requires-clause-pc
cell-requires-clause-pc c =
    (table-at c.args.filled c.args.index c.index.result.now c.index-filled-index.result c.requires.searchable c.requires.index c.index.ensures
    c.index-filled-index.is).entry

pub cell-requires-clause-position : goal.cell-requires-clause-position
cell-requires-clause-position c =
    let at = table-at c.args.filled c.args.index c.index.result.now c.index-filled-index.result c.requires.searchable c.requires.index c.index.ensures
    c.index-filled-index.is in
    omega (arith, c.requires.position, at.of.text)

pub returns-clause-none : goal.returns-clause-none
returns-clause-none c = λ none groups.
    let at = table-at c.args.filled c.args.index c.index.result.now c.index-filled-index.result c.requires.searchable c.requires.index c.index.ensures
    c.index-filled-index.is in
    first-none c.args.filled c.args.index groups c.args.position _ _ at c.requires.position c.cell.result c.cell.ensures c.if-cell.false

pub returns-clause-failed : goal.returns-clause-failed
returns-clause-failed c = λ number has.
    let f = c.args.filled in
    let at = table-at f c.args.index c.index.result.now c.index-filled-index.result c.requires.searchable c.requires.index c.index.ensures
    c.index-filled-index.is in
    elim (c.insert.ensures number has) [
      | inl old ↦ c.requires.failed number old
      | inr same ↦
          subst (HasNoneIn f c.args.index) (sym (same ∙ c.number_of-number.ensures.value ∙ ap (number_of (slice_index_or f.input.tables.now c.args.index c.index-filled-index.result)) c.row_of.ensures.value))
          (none-in f c.args.index 0 c.args.position _ _ at c.requires.position c.cell.result c.cell.ensures c.if-cell.false)
    ]
