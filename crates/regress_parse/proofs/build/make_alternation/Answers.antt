use Rattle.std.proofs.Common.{◌≡◌, map, sym, ap, subst, ◌∙◌}
use Rattle.std.specs.Result.{IfOk}
use Rattle.regress_tree.specs.Tree.{tree}
use Rattle.regress_parse.specs.TreeOf.{alternation}
use Rattle.regress_parse.proofs.BuildLemmas.{alternatives-are}
use Rattle.regress_parse.proofs.build.make_alternation.Goals as goal

pub returns-in-Some : goal.returns-in-Some
returns-in-Some c =
    subst (λ t. IfOk c.make_alt.result (λ node. tree node ≡ t))
    (alternatives-are c.pop.new.self.items c.in-Some.last ∙ ap (λ nodes. alternation (map tree nodes)) (sym c.in-Some.ensures.items))
    c.make_alt.ensures
