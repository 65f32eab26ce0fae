use Rattle.std.proofs.Common.{◌≡◌, ◌≤◌, length}
use Rattle.regress.specs.Groups.{named_left}
use Rattle.regress.proofs.groups.NamedGroupsIterator.next.Given as goal

-- no group so far has a name
abbrev pub invariant-loop-self : goal.invariant-loop-self
invariant-loop-self l = record {
  found : l.self.found.now ≡ l.fn.self.found.now;
  left : named_left l.self ≡ named_left l.fn.self;
  fewer : length l.self.rest.now ≤ length l.fn.self.rest.now;
}

abbrev pub decreases-loop-self : goal.decreases-loop-self
decreases-loop-self l = length l.self.rest.now
