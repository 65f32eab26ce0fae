-- the lines so far
use Rattle.std.proofs.Common.{map, take}
use Rattle.regress_explain.specs.Page.{AreLines}
use Rattle.regress_explain.specs.Written.{Adds, span_of}
use Rattle.regress_explain.proofs.listing.write_lines.Given as goal

abbrev pub invariant-loop-number : goal.invariant-loop-number
invariant-loop-number l =
    Adds (AreLines l.listing.pattern.now l.listing.leads.now 0 (map span_of (take l.number l.lines))) l.initial.page l.page
