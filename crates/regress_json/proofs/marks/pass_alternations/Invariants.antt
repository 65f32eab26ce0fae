use Rattle.std.proofs.Common.{◌≡◌, drop}
use Rattle.std.specs.Slice.Iter.{iter_rest}
use Rattle.regress_tree.specs.Tree.{tree}
use Rattle.regress_json.specs.Passed.{alternations}
use Rattle.regress_json.proofs.marks.pass_alternations.Given as goal

-- the `Alt`s further down are still to be skipped
abbrev pub invariant-loop-right : goal.invariant-loop-right
invariant-loop-right l = drop (alternations (tree l.rest)) (iter_rest l.marks) ≡ drop (alternations (tree l.fn.right)) (iter_rest l.fn.marks)
