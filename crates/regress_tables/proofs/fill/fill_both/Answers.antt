use Rattle.std.proofs.Common.{◌++◌, arith}
use Rattle.regress_tables.proofs.FillLemmas.{SameShape-trans}
use Rattle.regress_tables.proofs.RowLemmas.{Grows-trans, second-half}
use Rattle.regress_tables.proofs.fill.fill_both.Goals as goal

pub fill_half-requires-2-clause-at : goal.fill_half-requires-2-clause-at
fill_half-requires-2-clause-at c =
    second-half c.args.table.now c.fill_half.new.table c.args.position c.requires.at c.in_ok-fill_half.ensures.shape c.in_ok-fill_half.ensures.more

pub returns : goal.returns
returns c =
    let t = c.args.table.now in
    let first = c.in_ok-fill_half.ensures in
    let second = c.in_ok-fill_half-2.ensures in
    record {
      more = omega (arith, first.more, second.more, first.shape.width);
      shape = SameShape-trans t c.fill_half.new.table c.fill_half-2.new.table first.shape second.shape;
      grows = (
        first.grows.0 ++ second.grows.0,
        Grows-trans t c.fill_half.new.table c.fill_half-2.new.table first.grows.0 second.grows.0 first.grows.1 second.grows.1,
      );
      filled = λ filled. second.filled (first.filled filled);
    }
