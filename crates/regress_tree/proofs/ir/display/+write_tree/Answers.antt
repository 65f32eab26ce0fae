-- The line of a node, and the remaining lines.
use Rattle.std.proofs.Common.{true, refl, le_trans, arith}
use Rattle.std.proofs.lemmas.List.{drop_all}
use Rattle.std.proofs.Output.{has_written_append}
use Rattle.regress_tree.specs.Tree.{tree}
use Rattle.regress_tree.proofs.lemmas.Nodes.{tree-Cat, tree-Alt, leaf_of}
use Rattle.regress_tree.proofs.lemmas.Visits.{right_smaller}
use Rattle.regress_tree.proofs.DisplayLemmas.{inside_written, leaf_written, part_written, nothing_on_err, has_written_nothing}
use Rattle.regress_tree.proofs.ir.display.+write_tree.Goals as goal

pub write_tree-loop-depth-preserved-in-Alt : goal.write_tree-loop-depth-preserved-in-Alt
write_tree-loop-depth-preserved-in-Alt g t c = record {
  smaller = rw c.deref-node.ensures (le_trans (right_smaller _ _ _ c.in-Alt.is) c.loop-depth.invariant.smaller);
  completes = λ plain.
      let so_far = c.loop-depth.invariant.completes plain in
      let own = c.in_ok-write_line.ensures so_far.0 (refl {a = true}) in
      let left = rw (c.deref-in-Alt.ensures, c.saturating_add-depth.ensures) at (c.in_ok-write_tree-in-Alt.ensures own.plain (refl {a = true})) in (
        left.plain,
        λ last rest.
            let right = rw (c.deref-node.ensures, c.saturating_add-depth.ensures) at rest in
            so_far.1 last (inside_written _ c.loop-depth.depth (tree c.loop-depth.node.now) _ _ _ own
            (rw (c.in-Alt.is, tree-Alt) (has_written_append _ _ _ _ _ _ left right))),
      );
}

pub write_tree-returns-in_err-write_line : goal.write_tree-returns-in_err-write_line
write_tree-returns-in_err-write_line g t c = nothing_on_err g.W.Write.write_str_gives _ _ _ _ c.from_residual.ensures.0

pub write_tree-returns-in-Cat : goal.write_tree-returns-in-Cat
write_tree-returns-in-Cat g t c plain ok =
    let so_far = c.loop-depth.invariant.completes plain in
    let own = c.in_ok-write_line.ensures so_far.0 (refl {a = true}) in
    let parts = rw (c.deref.ensures.value, c.saturating_add-depth.ensures) at (c.write_trees.ensures own.plain ok) in
    so_far.1 _ (inside_written _ c.loop-depth.depth (tree c.loop-depth.node.now) _ _ _ own (rw (c.in-Cat.is, tree-Cat) parts))

pub write_tree-returns-in_err-write_tree-in-Alt : goal.write_tree-returns-in_err-write_tree-in-Alt
write_tree-returns-in_err-write_tree-in-Alt g t c =
    nothing_on_err g.W.Write.write_str_gives _ _ _ _ c.from_residual-in_err-write_tree-in-Alt.ensures.0

pub write_tree-returns-in_default-body : goal.write_tree-returns-in_default-body
write_tree-returns-in_default-body g t c plain ok =
    let so_far = c.loop-depth.invariant.completes plain in
    let own = c.in_ok-write_line.ensures so_far.0 (refl {a = true}) in
    let leaf = leaf_of c.loop-depth.node.now c.in_default.not-Cat c.in_default.not-Alt c.in_default-body.ensures.body in
    so_far.1 _ (leaf_written _ c.loop-depth.depth (tree c.loop-depth.node.now) _ _ leaf own)

pub write_tree-loop-depth-preserved : goal.write_tree-loop-depth-preserved
write_tree-loop-depth-preserved g t c = record {
  smaller = omega (arith, c.in-Some.ensures.smaller, c.loop-depth.invariant.smaller);
  completes = λ plain.
      let so_far = c.loop-depth.invariant.completes plain in
      let own = c.in_ok-write_line.ensures so_far.0 (refl {a = true}) in (
        own.plain,
        λ last rest.
            let body = rw c.saturating_add-depth.ensures at rest in
            so_far.1 last (inside_written _ c.loop-depth.depth (tree c.loop-depth.node.now) _ _ _ own (rw c.in-Some.ensures.body.is body)),
      );
}

pub write_trees-loop-part-preserved : goal.write_trees-loop-part-preserved
write_trees-loop-part-preserved g t c plain =
    let so_far = c.loop-part.invariant plain in
    let own = c.in_ok-write_tree.ensures so_far.0 (refl {a = true}) in (
      own.plain,
      λ last rest.
          so_far.1 last
          (part_written _ c.args.depth c.args.parts.now c.loop-part.part-index c.part-item.result _ _ _ c.loop-part-test.true c.part-item.is own rest),
    )

pub write_trees-returns-in_err-write_tree : goal.write_trees-returns-in_err-write_tree
write_trees-returns-in_err-write_tree g t c = nothing_on_err g.W.Write.write_str_gives _ _ _ _ c.from_residual.ensures.0

pub write_trees-returns : goal.write_trees-returns
write_trees-returns g t c plain ok =
    let l = c.loop-part in
    let so_far = l.invariant plain in
    so_far.1 _ (rw (drop_all l.part-index c.args.parts.now c.loop-part-test.false) (has_written_nothing _ _ so_far.0))
