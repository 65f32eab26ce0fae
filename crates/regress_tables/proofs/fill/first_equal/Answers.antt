use Rattle.std.proofs.Common.{◌+◌, false, get_or, sym, ap, ◌∙◌, arith}
use Rattle.regress_tables.specs.Bits.{bits_of}
use Rattle.regress_tables.proofs.RowLemmas.{equal-rows, row-stored}
use Rattle.regress_tables.proofs.fill.first_equal.Goals as goal

pub returns-then-are_equal-clause-same : goal.returns-then-are_equal-clause-same
returns-then-are_equal-clause-same c =
    let t = c.args.table.now in
    let head = c.index-head.result.now in
    equal-rows t head t.distinct (row-stored t head (omega (arith, c.if-head-last.true))) (omega (arith, c.requires.one))
    (λ k lt. ap (λ s. get_or (bits_of t.bits) (s + k) false) (sym c.start_of.ensures.value) ∙ c.are_equal.ensures c.if-are_equal.true k lt
    ∙ ap (λ s. get_or (bits_of t.bits) (s + k) false) c.start_of-start.ensures.value)
