-- The effect of the traversal so far on the whole tree.
use Rattle.std.proofs.Common.{◌≡◌, ◌≤◌, ◌+◌, ◌*◌, length, drop, take}
use Rattle.regress_tree.specs.NormalForm.{IsNormal}
use Rattle.regress_tree.specs.Spine.{reattach}
use Rattle.regress_tree.specs.Tree.{tree, trees, cat}
use Rattle.regress_tree.specs.Units.{units, units_in_list}
use Rattle.regress_tree.specs.Walk.{direction_of}
use Rattle.regress_normalize.specs.Normalized.{ListIsNormal}
use Rattle.regress_normalize.specs.PartFacts.{HasFacts, IsStillOneCharacter, HasListFacts}
use Rattle.regress_normalize.specs.Steps.{Denotes}
use Rattle.regress_normalize.proofs.TraversalLemmas.{units_above, units_left}
use Rattle.regress_normalize.proofs.traversal.+normalize.Given as goal

-- the alternatives below are in normal form
abbrev pub invariant-normalize_up-loop-alloc : goal.invariant-normalize_up-loop-alloc
invariant-normalize_up-loop-alloc l =
    let old = reattach (tree l.initial.above) (tree l.initial.node) in
    record {
      occurs : Denotes (direction_of l.walk) old (reattach (tree l.above) (tree l.node));
      normal : IsNormal (tree l.node);
      facts : HasFacts l.right (tree l.node);
      still_one : IsNormal old × IsStillOneCharacter l.fn.last (tree l.initial.node) → IsStillOneCharacter l.right (tree l.node);
      smaller : units_above (tree l.above) ≤ units_above (tree l.initial.above);
    }

abbrev pub decreases-normalize_up-loop-alloc : goal.decreases-normalize_up-loop-alloc
decreases-normalize_up-loop-alloc l = units_above (tree l.above)

-- the parts so far are in normal form
abbrev pub invariant-normalize_parts-loop-i : goal.invariant-normalize_parts-loop-i
invariant-normalize_parts-loop-i l =
    let old = l.initial.parts.items in
    record {
      length : length l.parts.items ≡ length old;
      unvisited : drop l.i l.parts.items ≡ drop l.i old;
      occurs : Denotes (direction_of l.walk) (cat (trees old)) (cat (trees l.parts.items));
      normal : ListIsNormal (trees (take l.i l.parts.items));
      facts : HasListFacts l.list (trees (take l.i l.parts.items));
    }

-- Each call is on a smaller node, or on the same node and a later function of this list. Right sides above are
-- finished, and don't count.

abbrev pub decreases-normalize : goal.decreases-normalize
decreases-normalize l = 6 * units (tree l.node.now) + 4

abbrev pub decreases-normalize_last : goal.decreases-normalize_last
decreases-normalize_last l = 6 * units (tree l.node.now) + 3

abbrev pub decreases-normalize_body : goal.decreases-normalize_body
decreases-normalize_body l = 6 * units (tree l.node.now) + 2

abbrev pub decreases-normalize_parts : goal.decreases-normalize_parts
decreases-normalize_parts l = 6 * units_in_list (trees l.parts.now.items) + 5

abbrev pub decreases-normalize_up : goal.decreases-normalize_up
decreases-normalize_up l = 6 * units_above (tree l.above) + 5

abbrev pub decreases-normalize_alt : goal.decreases-normalize_alt
decreases-normalize_alt l = 6 * units_left (tree l.node.now)
