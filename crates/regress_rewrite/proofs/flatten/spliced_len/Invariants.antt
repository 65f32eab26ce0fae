use Rattle.std.proofs.Common.{◌≡◌, take}
use Rattle.regress_tree.specs.Tree.{trees}
use Rattle.regress_rewrite.specs.Splice.{spliced, list_length}
use Rattle.regress_rewrite.proofs.flatten.spliced_len.Given as goal

abbrev pub invariant-loop-part : goal.invariant-loop-part
invariant-loop-part l = l.len ≡ list_length (spliced (trees (take l.part-index l.parts)))
