-- The sum of the parts' minimum lengths.
use Rattle.std.proofs.Common.{◌∙◌, ◌∷◌, min, drop, sym, ap, arith, ◌+◌}
use Rattle.std.proofs.lemmas.List.{drop_more, drop_all}
use Rattle.regress_front.specs.Tree.{tree, trees, cat}
use Rattle.regress_tree.proofs.lemmas.Visits.{right_smaller}
use Rattle.regress_tree.specs.Onward.{TakesAtLeast}
use Rattle.regress_tree.specs.declared.ir.node.Node.{size-Node}
use Rattle.example_callers.proofs.LengthLemmas.{takes_less, same_takes, here_takes, cat_takes, alt_takes, group_takes, loop_takes, loop_one_takes, no_trees_take, more_trees_take}
use Rattle.example_callers.proofs.length.+least_length.Goals as goal

pub least_length-loop-last-preserved : goal.least_length-loop-last-preserved
least_length-loop-last-preserved t c =
    let l = c.loop-last in
    let down = right_smaller l.last.now c.in-Alt.left c.in-Alt.right c.in-Alt.is in
    let same = ap size-Node c.deref-last.ensures in
    let first = same_takes c.least_length.result _ _ c.deref.ensures c.least_length.ensures in
    record {
      smaller = omega arith;
      rest = λ n takes.
          let rest = same_takes n _ _ c.deref-last.ensures takes in
          takes_less _ (min l.least (min c.least_length.result n)) (tree c.args.node.now) (omega (arith, c.min-least.ensures))
          (alt_takes l.least n c.least_length.result l.last.now c.in-Alt.left c.in-Alt.right (λ m. TakesAtLeast m (tree c.args.node.now))
          c.in-Alt.is l.invariant.rest first rest);
    }

pub least_length_inside-returns-in-Cat : goal.least_length_inside-returns-in-Cat
least_length_inside-returns-in-Cat t c = cat_takes _ _ c.in-Cat.parts _ c.in-Cat.is c.deref.ensures.value c.least_length_of_all.ensures

pub least_length_inside-returns-in-CaptureGroup : goal.least_length_inside-returns-in-CaptureGroup
least_length_inside-returns-in-CaptureGroup t c =
    let at = c.in-CaptureGroup in
    group_takes _ _ at.id at.contents at.name at.is (same_takes _ _ _ c.deref-in-CaptureGroup.ensures c.least_length.ensures)

pub least_length_inside-returns-in-Loop : goal.least_length_inside-returns-in-Loop
least_length_inside-returns-in-Loop t c =
    let at = c.in-Loop in
    loop_takes _ c.least_length-in-Loop.result _ at.loopee at.quant at.enclosed_groups at.is c.saturating_mul.ensures
    (same_takes _ _ _ c.deref-in-Loop.ensures c.least_length-in-Loop.ensures)

pub least_length_inside-returns-in-Loop1CharBody : goal.least_length_inside-returns-in-Loop1CharBody
least_length_inside-returns-in-Loop1CharBody t c =
    let at = c.in-Loop1CharBody in
    loop_one_takes _ c.least_length-in-Loop1CharBody.result _ at.loopee at.quant at.is c.saturating_mul-in-Loop1CharBody.ensures
    (same_takes _ _ _ c.deref-in-Loop1CharBody.ensures c.least_length-in-Loop1CharBody.ensures)

pub least_length_inside-returns-in_default : goal.least_length_inside-returns-in_default
least_length_inside-returns-in_default t c =
    takes_less _ _ (tree c.args.node.now) (omega (arith, c.least_length_here.ensures)) (here_takes (tree c.args.node.now))

pub least_length_of_all-loop-part-preserved : goal.least_length_of_all-loop-part-preserved
least_length_of_all-loop-part-preserved t c =
    let l = c.loop-part in
    let parts = c.args.parts.now in
    let after = drop (l.part-index + 1) parts in
    let cut = drop_more parts l.part-index c.part-item.result c.loop-part-test.true ∙ ap (λ n. n ∷ after) (sym c.part-item.is) in
    λ n rest.
    let both = more_trees_take c.least_length.result n (tree c.part-item.result) (trees after) c.least_length.ensures rest in
    takes_less _ (l.least + (c.least_length.result + n)) (cat (trees parts)) (omega (arith, c.saturating_add-least.ensures))
    (l.invariant (c.least_length.result + n) (rw cut both))

pub least_length_of_all-returns : goal.least_length_of_all-returns
least_length_of_all-returns t c =
    let l = c.loop-part in
    takes_less _ (l.least + 0) (cat (trees c.args.parts.now)) (omega arith)
    (l.invariant 0 (rw (drop_all l.part-index c.args.parts.now c.loop-part-test.false) no_trees_take))
