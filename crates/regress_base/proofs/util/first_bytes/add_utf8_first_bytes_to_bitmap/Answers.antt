use Rattle.std.proofs.Common.{sym, ◌∙◌, arith}
use Rattle.regress_base.proofs.FirstByteLemmas.{width_two, width_three, width_four, four_widths}
use Rattle.regress_base.proofs.util.first_bytes.add_utf8_first_bytes_to_bitmap.Goals as goal

pub add_first_bytes_of_one_width-requires-2-clause-one_width : goal.add_first_bytes_of_one_width-requires-2-clause-one_width
add_first_bytes_of_one_width-requires-2-clause-one_width c = λ order.
    width_two c.max.result (omega arith) (omega arith) ∙ sym (width_two c.min-2.result (omega arith) (omega arith))

pub add_first_bytes_of_one_width-requires-3-clause-one_width : goal.add_first_bytes_of_one_width-requires-3-clause-one_width
add_first_bytes_of_one_width-requires-3-clause-one_width c = λ order.
    width_three c.max-2.result (omega arith) (omega arith) ∙ sym (width_three c.min-3.result (omega arith) (omega arith))

pub add_first_bytes_of_one_width-requires-4-clause-one_width : goal.add_first_bytes_of_one_width-requires-4-clause-one_width
add_first_bytes_of_one_width-requires-4-clause-one_width c = λ order.
    width_four c.max-3.result (omega arith) ∙ sym (width_four c.last-last.result (omega arith))

pub returns : goal.returns
returns c = λ b.
    let f = c.first-first.result in
    let l = c.last-last.result in
    let parts = four_widths f l c.min.result c.max.result c.min-2.result c.max-2.result c.min-3.result c.max-3.result b c.min.ensures
    c.max.ensures c.min-2.ensures c.max-2.ensures c.min-3.ensures c.max-3.ensures
    _ _ _ _ _
    (c.add_first_bytes_of_one_width.ensures b) (c.add_first_bytes_of_one_width-2.ensures b) (c.add_first_bytes_of_one_width-3.ensures b)
    (c.add_first_bytes_of_one_width-4.ensures b) in
    rw (← c.first-first.ensures.value, ← c.last-last.ensures.value) parts
