-- the tags so far
use Rattle.std.proofs.Common.{All}
use Rattle.regress_explain.specs.Page.{IsListTag}
use Rattle.regress_explain.specs.Written.{Adds}
use Rattle.regress_explain.proofs.listing.close_lists.Given as goal

abbrev pub invariant-loop-list : goal.invariant-loop-list
invariant-loop-list l = Adds (All IsListTag) l.initial.page l.page
