-- The law, from what happened to the contents.
use Rattle.std.proofs.Common.{◌≡◌, ◌∙◌, true, rules, sym, ap, subst}
use Rattle.regress_base.specs.declared.types.bracket.BracketContents.{BracketContents}
use Rattle.regress_tree.specs.declared.ir.node.Node.{out-Node, the_lemmas}
use Rattle.regress_tree.specs.declared.ir.node.Node.TheOpen.{Node-F}
use Rattle.regress_tree.specs.declared.ir.node.Node.TheVariants.{Bracket}
use Rattle.regress_tree.specs.Shapes.{is_simplified_away}
use Rattle.regress_tree.specs.Tree.{Tree, tree, leaf, bracket}
use Rattle.regress_tree.proofs.lemmas.Nodes.{tree-Bracket}
use Rattle.regress_rewrite.specs.Law.{IsPart}
use Rattle.regress_rewrite.proofs.lemmas.Lawful.{lawful_as}
use Rattle.regress_rewrite.proofs.SimplifyLemmas.{simplify_lawful, simplify_leaf}
use Rattle.regress_rewrite.proofs.simplify_brackets.simplify_brackets.Goals as goal

out-Bracket : (contents : BracketContents) → out-Node (Bracket contents) ≡ Node-F.Bracket contents
out-Bracket contents = search (rules, the_lemmas)

pub returns-in-Bracket-clause-lawful : goal.returns-in-Bracket-clause-lawful
returns-in-Bracket-clause-lawful c d =
    let contents = c.in-Bracket.contents in
    let new = c.simplify_bracket.new.contents in
    let is : tree c.args.node.now ≡ leaf (bracket contents.invert contents.cps) = ap tree c.in-Bracket.is ∙ tree-Bracket contents in
    let part = subst (λ (t : Tree). IsPart t) is c.requires in
    let action = rw c.in-Bracket.contents-is at c.simplify_bracket.ensures.action in
    lawful_as is_simplified_away true d c.simplify_bracket.result (sym is) (rw (c.in-Bracket.is, out-Bracket) (sym (tree-Bracket new)))
    (simplify_lawful d c.simplify_bracket.result contents new part action)

pub returns-in-Bracket-clause-leaf : goal.returns-in-Bracket-clause-leaf
returns-in-Bracket-clause-leaf c =
    let action = rw c.in-Bracket.contents-is at c.simplify_bracket.ensures.action in
    let is = c.simplify_bracket.new.contents in
    rw (c.in-Bracket.is, out-Bracket)
    (simp tree-Bracket (simplify_leaf c.simplify_bracket.result c.in-Bracket.contents is action))
