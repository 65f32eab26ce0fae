use Rattle.std.proofs.Common.{◌≡◌, ◌≤◌, length, take}
use Rattle.std.specs.Prelude.{vec_capacity}
use Rattle.regress_tree.specs.Tree.{trees}
use Rattle.regress_rewrite.specs.Splice.{spliced, list_length}
use Rattle.regress_rewrite.proofs.flatten.splice.Given as goal

abbrev pub invariant-loop-part : goal.invariant-loop-part
invariant-loop-part l = record {
  items : trees l.flat.items ≡ spliced (trees l.yielded);
  before : l.yielded ≡ take (length l.yielded) l.fn.parts.items;
  room : list_length (spliced (trees l.fn.parts.items)) ≤ vec_capacity l.flat;
}
