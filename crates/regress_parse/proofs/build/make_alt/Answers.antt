use Rattle.std.proofs.Common.{◌≡◌, ◌++◌, ◌∷◌, [], map, sym, ap, ap₂, ◌∙◌}
use Rattle.regress_tree.specs.Tree.{tree, alt}
use Rattle.regress_tree.proofs.lemmas.Nodes.{tree-Alt}
use Rattle.regress_parse.specs.Parsing.{alternatives}
use Rattle.regress_parse.proofs.BuildLemmas.{alternatives-push}
use Rattle.regress_parse.proofs.build.make_alt.Goals as goal

pub loop-left-preserved : goal.loop-left-preserved
loop-left-preserved c =
    let left = c.in-Some.left in
    let rest = c.pop.new.self.items in
    let items : c.loop-left.before.items ≡ rest ++ left ∷ [] = c.in-Some.ensures.items in
    ap (alternatives (map tree rest))
    (tree-Alt c.in_ok-new.field-0 c.in_ok-new-2.field-0
    ∙ ap₂ (λ a b. alt (tree a) (tree b)) c.in_ok-new.ensures.ok c.in_ok-new-2.ensures.ok)
    ∙ sym (alternatives-push rest left (tree c.loop-left.node))
    ∙ ap (λ nodes. alternatives (map tree nodes) (tree c.loop-left.node)) (sym items)
    ∙ c.loop-left.invariant
