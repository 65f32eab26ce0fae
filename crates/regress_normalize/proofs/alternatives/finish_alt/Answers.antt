-- By which side replaces the `Alt`.
use Rattle.std.proofs.Common.{inl, inr, sym, ◌∙◌}
use Rattle.std.proofs.lemmas.Bool.{or_left, or_right}
use Rattle.regress_tree.specs.Tree.{tree}
use Rattle.regress_tree.proofs.lemmas.Nodes.{tree-Empty}
use Rattle.regress_normalize.proofs.AltLemmas.{sides_empty, left_side, right_side, alt_stays}
use Rattle.regress_normalize.proofs.alternatives.finish_alt.Goals.{then-not-left+then-not-right+else-left+else-right, else-not-left, else-not-left-via-then-not-left+else-not-right, else-not-left-via-else-not-left}
use Rattle.regress_normalize.proofs.alternatives.finish_alt.Goals as goal

pub returns-then-has_empty_sides : goal.returns-then-has_empty_sides
returns-then-has_empty_sides c d =
    let sides = c.requires.sides in
    let empties = sym (c.has_empty_sides.ensures sides.left sides.right sides.is) ∙ c.if-has_empty_sides.true in
    rw tree-Empty
    (sides_empty d (tree c.args.node.now) c.args.left.now c.args.right.now sides c.requires.part c.leaf_facts.result empties
    (rw tree-Empty at c.leaf_facts.ensures.has))

pub returns-then-left : goal.returns-then-left
returns-then-left c d =
    let sides = c.requires.sides in
    right_side d (tree c.args.node.now) c.args.left.now c.args.right.now sides c.requires.part (tree c.take_right.new.node) c.alone.result
    c.if-not-left.true c.if-not-right.true c.if-left.true (c.take_right.ensures sides.left sides.right sides.is)
    (c.alone.ensures sides.right sides.right_has)

pub returns-then-right : goal.returns-then-right
returns-then-right c d =
    let sides = c.requires.sides in
    left_side d (tree c.args.node.now) c.args.left.now c.args.right.now sides c.requires.part (tree c.take_left.new.node)
    c.alone-then-right.result c.if-not-left.true c.if-not-right.true c.if-right.true
    (c.take_left.ensures sides.left sides.right sides.is) (c.alone-then-right.ensures sides.left sides.left_has)

pub returns : goal.returns
returns c d =
    let sides = c.requires.sides in
    let no_empties = sym (c.has_empty_sides.ensures sides.left sides.right sides.is) ∙ c.if-has_empty_sides.false in
    let stays = alt_stays d (tree c.args.node.now) c.args.left.now c.args.right.now sides c.requires.part c.join.result no_empties in
    let has = c.join.ensures.has sides.left sides.right sides.left_has sides.right_has in
    let many = c.join.ensures.many in
    elim c.if-not-left.branch [
      | then-not-left+then-not-right+else-left+else-right w ↦ stays (inl (w.if-left.false, w.if-right.false)) has many
      | else-not-left w ↦ elim w.else-not-left.branch [
        | else-not-left-via-then-not-left+else-not-right w' ↦ stays (inr (or_right _ _ w'.if-not-right.false)) has many
        | else-not-left-via-else-not-left w' ↦ stays (inr (or_left _ _ w'.if-not-left.false)) has many
      ]
    ]
