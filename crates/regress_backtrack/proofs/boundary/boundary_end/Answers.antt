use Rattle.std.proofs.Common.{rules, ◌≡◌, ◌∷◌, [], false, true, sym, ap, ◌∙◌}
use Rattle.regress_tree.specs.Tree.{tree, leaf, word_boundary}
use Rattle.regress_tree.specs.declared.ir.node.Node.{the_lemmas}
use Rattle.regress_backtrack.proofs.BoundaryLemmas.{boundary_steps}
use Rattle.regress_backtrack.proofs.boundary.boundary_end.Goals as goal

pub returns-then-branch : goal.returns-then-branch
returns-then-branch c = λ setting d s here.
    let invert = c.in-WordBoundary-default-false.invert in
    let is : tree c.args.node.now ≡ leaf (word_boundary invert false) = search (rules, the_lemmas) in
    boundary_steps setting c.args.text.now d (tree c.args.node.now) invert s c.args.position true is here
    (sym c.if-branch.true ∙ c.in_ok-is_at_boundary.ensures)
    ∙ ap (λ k. record s { position = k } ∷ []) here

pub returns-else-branch : goal.returns-else-branch
returns-else-branch c = λ setting d s here.
    let invert = c.in-WordBoundary-default-false.invert in
    let is : tree c.args.node.now ≡ leaf (word_boundary invert false) = search (rules, the_lemmas) in
    boundary_steps setting c.args.text.now d (tree c.args.node.now) invert s c.args.position false is here
    (sym c.if-branch.false ∙ c.in_ok-is_at_boundary.ensures)
