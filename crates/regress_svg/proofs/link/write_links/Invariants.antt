-- the links so far
use Rattle.std.proofs.Common.{string_bytes}
use Rattle.regress_svg.specs.Links.{WritesLinks}
use Rattle.regress_svg.proofs.link.write_links.Given as goal

abbrev pub invariant-loop-area : goal.invariant-loop-area
invariant-loop-area l = WritesLinks l.count l.lines.items (string_bytes l.initial.text) (string_bytes l.text)
