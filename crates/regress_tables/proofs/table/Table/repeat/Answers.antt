use Rattle.std.proofs.Common.{refl, arith}
use Rattle.regress_tables.specs.Numbers.{numbers_of}
use Rattle.regress_tables.proofs.RowLemmas.{evaluated-repeat, numbers-pushed}
use Rattle.regress_tables.proofs.table.Table.repeat.Goals as goal

pub invariant_of-self : goal.invariant_of-self
invariant_of-self c =
    let t = c.args.self.now in
    let pushed =
    numbers-pushed c.push.result (numbers_of t.rows) (numbers_of c.push.new.self) c.args.number t.distinct c.push.ensures.added c.push.ensures.kept t.numbers c.requires.number in
    record {
      short = t.short;
      small = t.small;
      words = t.words;
      numbers = pushed.0;
      filled = t.filled;
      few = omega (arith, t.few, pushed.1);
      inside = omega (arith, c.requires.room, pushed.2);
      narrow = t.narrow;
    }

pub returns-clause-evaluated : goal.returns-clause-evaluated
returns-clause-evaluated c =
    evaluated-repeat c.args.self.now _ c.args.number (record { width = refl; length = refl; backwards = refl }) c.in_ok-push.ensures.added refl refl c.requires.number c.requires.whole
