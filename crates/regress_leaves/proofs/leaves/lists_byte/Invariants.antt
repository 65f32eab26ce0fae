-- No earlier element is the character.
use Rattle.std.proofs.Common.{◌≡◌, drop}
use Rattle.regress_base.specs.Listing.{lists}
use Rattle.regress_leaves.proofs.leaves.lists_byte.Given as goal

abbrev pub invariant-loop-b : goal.invariant-loop-b
invariant-loop-b l = lists (drop l.b-index l.bytes) l.c ≡ lists l.bytes l.c
