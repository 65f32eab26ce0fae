use Rattle.std.proofs.Common.{◌++◌, flat_map, ap}
use Rattle.std.proofs.lemmas.List.Elements.{All-tail}
use Rattle.regress_backtrack.specs.Machine.{at, groups_of, points}
use Rattle.regress_backtrack.specs.Next.{Inside}
use Rattle.regress_backtrack.proofs.alternatives.on.Goals as goal

pub returns-then-fails-clause-leads : goal.returns-then-fails-clause-leads
returns-then-fails-clause-leads c = λ machine outs solve.
    ap (λ xs. xs ++ flat_map (outs c.args.input.now.index) (points machine)) (c.fails.ensures c.if-fails.true outs (groups_of machine) solve)

pub returns-then-fails-clause-inside : goal.returns-then-fails-clause-inside
returns-then-fails-clause-inside c = λ machine all.
    All-tail (Inside c.args.input.now) (at c.args.place (groups_of machine)) (points machine) all
