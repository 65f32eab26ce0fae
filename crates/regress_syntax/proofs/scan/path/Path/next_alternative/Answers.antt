use Rattle.std.proofs.Common.{arith}
use Rattle.regress_syntax.proofs.PathLemmas.{counted_on}
use Rattle.regress_syntax.proofs.scan.path.Path.next_alternative.Goals as goal

pub returns-in-Some : goal.returns-in-Some
returns-in-Some c =
    let item = c.in-Some.ensures.item in
    counted_on c.args.self.now.nesting.items _ c.in-Some.level.now (omega (arith, item.0)) item.1
