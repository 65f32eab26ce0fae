use Rattle.std.proofs.Math.Logic.{∥∥₁_elim}
use Rattle.std.specs.Prelude.{All}
use Rattle.regress_found.specs.Found.{IsInside}
use Rattle.regress.specs.Inside.{AllInside-prop, IfOk-prop}
use Rattle.regress.proofs.pattern.Regex.all_matches.Goals as goal

pub returns-clause-inside : goal.returns-clause-inside
returns-clause-inside c =
    ∥∥₁_elim c.args.self.now.well_formed
    (IfOk-prop (λ all. All (IsInside c.args.text.now) all.items) (λ all. AllInside-prop c.args.text.now all.items) c.find_all.result)
    c.find_all.ensures.inside
