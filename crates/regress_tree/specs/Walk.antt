-- Walks over trees.
use Rattle.regress_tree.specs.declared.ir.walker.Walk.{Walk}
use Rattle.regress_tree.specs.Reading.{Direction, direction_if}

-- the direction in which a node of the walk is matched
abbrev pub direction_of : Walk → Direction
direction_of walk = direction_if walk.in_lookbehind
