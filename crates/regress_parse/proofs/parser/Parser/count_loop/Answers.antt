use Rattle.std.proofs.Common.{◌≡◌, ◌+◌, refl, arith}
use Rattle.regress_parse.proofs.parser.Parser.count_loop.Goals as goal

pub returns-clause-ok : goal.returns-clause-ok
returns-clause-ok c =
    let groups = c.args.self.now.group_count in
    let same : groups + 0 ≡ groups = omega arith in
    rw same refl
