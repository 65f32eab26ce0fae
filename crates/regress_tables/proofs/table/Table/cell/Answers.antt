use Rattle.std.proofs.Common.{◌≡◌, ◌+◌, ◌*◌, false, get_or, sym, ap, ap₂, ◌∙◌, arith}
use Rattle.std.proofs.lemmas.List.{get_or_past}
use Rattle.regress_tree.specs.Reading.{direction_if}
use Rattle.regress_program.specs.Below.{column, row_of}
use Rattle.regress_tables.specs.Bits.{bits_of}
use Rattle.regress_tables.specs.Table.{number_of}
use Rattle.regress_tables.proofs.RowLemmas.{cell-number}
use Rattle.regress_tables.proofs.table.Table.cell.Goals as goal

pub returns-then-index-len : goal.returns-then-index-len
returns-then-index-len c =
    let t = c.args.self.now in
    let at : c.number_of.result * (2 * t.width) + c.column-column.result
    ≡ number_of t (row_of (direction_if t.backwards) t.length c.args.position) * (2 * t.width) + column t.width c.args.moved c.args.pc =
    ap₂ (λ n k. n * (2 * t.width) + k) (c.number_of.ensures.value ∙ ap (number_of t) c.row_of-row.ensures.value) c.column-column.ensures.value in
    c.get.ensures ∙ ap (λ k. get_or (bits_of t.bits) k false) at ∙ sym (cell-number t c.args.pc c.args.moved c.args.position c.requires.pc)

pub returns-else-index-len : goal.returns-else-index-len
returns-else-index-len c =
    let t = c.args.self.now in
    let at : c.number_of.result * (2 * t.width) + c.column-column.result
    ≡ number_of t (row_of (direction_if t.backwards) t.length c.args.position) * (2 * t.width) + column t.width c.args.moved c.args.pc =
    ap₂ (λ n k. n * (2 * t.width) + k) (c.number_of.ensures.value ∙ ap (number_of t) c.row_of-row.ensures.value) c.column-column.ensures.value in
    sym (get_or_past (bits_of t.bits) (c.number_of.result * (2 * t.width) + c.column-column.result) false (omega (arith, c.if-index-len.false, c.len.ensures)))
    ∙ ap (λ k. get_or (bits_of t.bits) k false) at ∙ sym (cell-number t c.args.pc c.args.moved c.args.position c.requires.pc)
