-- One side replaces an `Alt` whose other side always fails.
use Rattle.std.proofs.Common.{◌≡◌, true, false}
use Rattle.regress_tree.specs.NodeTests.{match_always_fails}
use Rattle.regress_tree.specs.Reading.{Direction}
use Rattle.regress_tree.specs.Shapes.{has_group}
use Rattle.regress_tree.specs.Tree.{Tree, alt}
use Rattle.regress_tree.specs.WellFormed.{inside}
use Rattle.regress_tree.proofs.lemmas.Groups.{captures-free}
use Rattle.regress_rewrite.specs.Law.{IsPart, Keeps}
use Rattle.regress_rewrite.proofs.lemmas.Failing.{node_fails, left_keeps, right_keeps}

module _ (d : Direction) (left right : Tree) (part : IsPart (alt left right)) where
  pub right_alone : match_always_fails left ≡ true → has_group left ≡ false → Keeps d (alt left right) right
  right_alone fails free = right_keeps d left right (node_fails left fails part.0 inside part.2.1) (captures-free left free)

  pub left_alone : match_always_fails right ≡ true → has_group right ≡ false → Keeps d (alt left right) left
  left_alone fails free = left_keeps d left right (node_fails right fails part.0 inside part.2.2) (captures-free right free)
