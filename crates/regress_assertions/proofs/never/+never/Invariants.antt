-- The remaining parts decide.
use Rattle.std.proofs.Common.{◌≡◌, drop}
use Rattle.regress_tree.specs.Tree.{tree, trees}
use Rattle.regress_assertions.specs.Never.{some_never}
use Rattle.regress_assertions.proofs.never.+never.Given as goal

abbrev pub invariant-some_never-loop-part : goal.invariant-some_never-loop-part
invariant-some_never-loop-part l = record {
  remaining : l.rest ≡ drop l.part-index l.parts;
  decides :
      some_never l.place.backwards (tree l.place.previous.now) (tree l.place.next.now) (trees l.parts)
      ≡ some_never l.place.backwards (tree l.previous) (tree l.place.next.now) (trees (drop l.part-index l.parts));
}
