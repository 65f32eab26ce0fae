-- The lines so far were searched.
use Rattle.std.proofs.Common.{◌-◌}
use Rattle.regex_options.specs.Plain.{job}
use Rattle.regex_lines.specs.Searched.{named}
use Rattle.regex_lines.specs.Window.{window_of}
use Rattle.regex_lines.proofs.SearchLemmas.{SoFar}
use Rattle.regex_lines.proofs.searching.search_lines.Given as goal

abbrev pub invariant-loop-window : goal.invariant-loop-window
invariant-loop-window g l =
    SoFar l.fn.search.searcher.now.regex.now (job l.fn.search.task) (named l.fn.search.place) (g.B.Read.remaining l.fn.reader) (g.W.Write.contents l.fn.out)
    (g.B.Read.remaining l.reader) (g.W.Write.contents l.out) (window_of l.window)

abbrev pub decreases-loop-window : goal.decreases-loop-window
decreases-loop-window g l = 18446744073709551615 - l.window.number
