use Rattle.std.proofs.Common.{arith}
use Rattle.regress_tables.proofs.WordLemmas.{joined-far, joined-near}
use Rattle.regress_tables.proofs.words.joined.Goals as goal

pub returns : goal.returns
returns c = record {
  near = λ i near. joined-near c.args.word c.args.next c.args.at i near (omega (arith, near));
  far = λ i lt far. joined-far c.args.word c.args.next c.args.at i (omega arith) c.requires.inside lt far;
}
