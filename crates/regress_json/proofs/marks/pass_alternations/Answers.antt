use Rattle.std.proofs.Common.{◌∙◌, ap, drop}
use Rattle.std.specs.Slice.Iter.{iter_rest}
use Rattle.std.proofs.lemmas.List.{drop-drop}
use Rattle.regress_tree.specs.Tree.{tree}
use Rattle.regress_json.specs.Passed.{alternations}
use Rattle.regress_json.proofs.JsonLemmas.{next-passed}
use Rattle.regress_json.proofs.marks.pass_alternations.Goals as goal

pub loop-right-preserved : goal.loop-right-preserved
loop-right-preserved c =
    let below = alternations (tree c.in-Some.right.now) in
    let marks = c.loop-right.marks in
    ap (drop below) (next-passed marks c.next.new.self c.next.result c.next.ensures.steps) ∙ drop-drop below 1 (iter_rest marks)
    ∙ (rw c.in-Some.ensures.sides at c.loop-right.invariant)
