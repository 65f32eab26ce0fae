-- The links so far are those of the first places.
use Rattle.std.proofs.Common.{◌-◌, ◌≤◌, length}
use Rattle.regress_strings.specs.Links.{AreLinks}
use Rattle.regress_strings.specs.Ordered.{place_count, string_of}
use Rattle.regress_strings.proofs.links.links_of.Given as goal

abbrev pub invariant-loop-links : goal.invariant-loop-links
invariant-loop-links l = record {
  links : AreLinks (string_of l.order) l.links.items;
  within : length l.links.items ≤ place_count l.order;
}

abbrev pub decreases-loop-links : goal.decreases-loop-links
decreases-loop-links l = place_count l.order - length l.links.items
