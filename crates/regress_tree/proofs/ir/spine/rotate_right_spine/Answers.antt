use Rattle.std.proofs.Common.{◌≡◌, ◌∙◌, sym, ap}
use Rattle.regress_tree.specs.declared.ir.node.Node.{Node}
use Rattle.regress_tree.specs.Tree.{Tree, tree, alt}
use Rattle.regress_tree.proofs.lemmas.Nodes.{tree-Alt}
use Rattle.regress_tree.proofs.lemmas.Nesting.{out-Alt}
use Rattle.regress_tree.proofs.ir.spine.rotate_right_spine.Goals as goal

pub returns : goal.returns
returns c =
    let left = c.in-Alt.field-0 in
    let right = c.in-Alt.right in
    let right_is : c.deref_mut.result.now ≡ right.value = rw (c.in-Alt.is, out-Alt) at c.deref_mut.ensures.value in
    let rest_is : c.swap-2.new.x ≡ right.value = c.swap-2.ensures.x_after ∙ c.swap.ensures.y_after ∙ right_is in
    let alt_with : Node → Tree = λ n. alt (tree left.value) (tree n) in
    let top_is = rw (c.in-Alt.is, out-Alt) at c.swap-2.ensures.y_after in
    record {
      left = tree left.value;
      was = ap tree c.in-Alt.is ∙ tree-Alt left right ∙ ap alt_with (sym rest_is);
      is = ap tree top_is ∙ tree-Alt left (record right { value = c.swap.new.x }) ∙ ap alt_with c.swap.ensures.x_after;
    }
