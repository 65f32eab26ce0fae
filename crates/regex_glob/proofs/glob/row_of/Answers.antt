use Rattle.std.proofs.Common.{◌≡◌, ◌∙◌, ap, arith, drop, length, map, refl, subst}
use Rattle.regex_glob.specs.Glob.{matches, piece_of}
use Rattle.regex_glob.specs.Row.{ends}
use Rattle.regex_glob.proofs.RowLemmas.{length_ends, row_of_next, row_of_none}
use Rattle.regex_glob.proofs.glob.row_of.Goals as goal

pub with_piece-requires : goal.with_piece-requires
with_piece-requires c =
    ap length c.loop-count.invariant.0 ∙ length_ends (matches (map piece_of (drop c.loop-count.count c.args.pieces.now))) c.args.text.now

pub loop-count-init : goal.loop-count-init
loop-count-init c = (
  row_of_none c.args.pieces.now c.args.text.now (length c.args.text.now) (length c.args.pieces.now) c.in_ok-row.row.items refl refl c.in_ok-row.ensures,
  omega arith,
)

pub loop-count-preserved : goal.loop-count-preserved
loop-count-preserved c = (
  row_of_next c.args.pieces.now c.args.text.now c.loop-count.count c.index-pieces-count.result c.loop-count.row.items c.in_ok-row-2.row.items
      c.loop-count-test.true c.loop-count.invariant.1 c.index-pieces-count.is c.loop-count.invariant.0 c.in_ok-row-2.ensures,
  omega (arith, c.loop-count.invariant.1),
)

pub returns-clause-row : goal.returns-clause-row
returns-clause-row c =
    subst (λ i. c.loop-count.row.items ≡ ends (matches (map piece_of (drop i c.args.pieces.now))) c.args.text.now)
    (let none : c.loop-count.count ≡ 0 = omega (arith, c.loop-count-test.false) in none) c.loop-count.invariant.0

pub returns-clause-length : goal.returns-clause-length
returns-clause-length c =
    ap length c.loop-count.invariant.0 ∙ length_ends (matches (map piece_of (drop c.loop-count.count c.args.pieces.now))) c.args.text.now
