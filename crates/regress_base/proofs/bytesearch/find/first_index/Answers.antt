use Rattle.std.proofs.Common.{arith}
use Rattle.regress_base.proofs.FindLemmas.{none_past, none_more, first_found}
use Rattle.regress_base.proofs.bytesearch.find.first_index.Goals as goal

pub returns-then-test-clause-least : goal.returns-then-test-clause-least
returns-then-test-clause-least g c = λ set reports.
    first_found _ set c.args.part.now c.loop-i.i reports (c.type_inv.part c.loop-i.i).fits c.if-test.ensures
    (c.loop-i.invariant set reports) c.loop-i-test.true

pub loop-i-preserved : goal.loop-i-preserved
loop-i-preserved g c = λ set reports.
    none_more _ set c.args.part.now c.loop-i.i reports (c.type_inv.part c.loop-i.i).fits c.if-test.ensures (c.loop-i.invariant set reports)

pub returns-clause-least : goal.returns-clause-least
returns-clause-least g c = λ set reports.
    none_past set c.args.part.now (λ k h. c.loop-i.invariant set reports k (omega arith))
