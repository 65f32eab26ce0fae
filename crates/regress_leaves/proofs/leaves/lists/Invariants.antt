-- No earlier element is the character.
use Rattle.std.proofs.Common.{◌≡◌, drop}
use Rattle.regress_base.specs.Listing.{lists}
use Rattle.regress_leaves.proofs.leaves.lists.Given as goal

abbrev pub invariant-loop-x : goal.invariant-loop-x
invariant-loop-x l = lists (drop l.x-index l.characters) l.c ≡ lists l.characters l.c
