use Rattle.std.proofs.Common.{◌≡◌, ◌∙◌, ℕ, ◌<◌, List, ap, arith, length, refl, sym}
use Rattle.regress_tree.specs.Tree.{tree, trees}
use Rattle.regress_tree.proofs.lemmas.Nodes.{tree-Cat}
use Rattle.regress_tree.specs.declared.ir.node.Node.{Node}
use Rattle.regress_assertions.specs.Characters.{view}
use Rattle.regress_assertions.specs.Edges.{closes, closes_list}
use Rattle.regress_assertions.proofs.LastLemmas.{last_part}
use Rattle.regress_assertions.proofs.edges.+closes.Goals as goal

pub closes_inside-returns-in-len1-up : goal.closes_inside-returns-in-len1-up
closes_inside-returns-in-len1-up t c =
    let set = view c.args.set in
    let xs = c.as_slice.result.now in
    let some : 0 < length xs = omega (arith, c.in-len1-up.len_at_least) in
    c.closes.ensures
    ∙ sym (last_part set xs c.last-item.result some c.last-item.is)
    ∙ ap (λ (xs : List Node). closes_list set (trees xs)) c.as_slice.ensures.value
    ∙ sym (let is : closes set (tree c.args.node.now) ≡ closes_list set (trees c.in-Cat.parts.items) = rw (c.in-Cat.is, tree-Cat) refl in is)
