-- The marks so far, and those of the remaining parts.
use Rattle.std.proofs.Common.{◌≡◌, ◌++◌, drop}
use Rattle.regress_tree.specs.Tree.{tree, trees}
use Rattle.regress_assertions.specs.Marks.{marks_of_list}
use Rattle.regress_assertions.proofs.marks.+mark.Given as goal

abbrev pub invariant-mark_all-loop-part : goal.invariant-mark_all-loop-part
invariant-mark_all-loop-part l = record {
  remaining : l.rest ≡ drop l.part-index l.parts;
  marks :
      l.marks.items ++ marks_of_list l.place.backwards (tree l.previous) (tree l.place.next.now) (trees (drop l.part-index l.parts))
      ≡ l.initial.marks.items ++ marks_of_list l.place.backwards (tree l.place.previous.now) (tree l.place.next.now) (trees l.parts);
}
