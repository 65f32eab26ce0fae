-- The first lines were added.
use Rattle.std.proofs.Common.{◌-◌, length}
use Rattle.regex_options.specs.Plain.{job}
use Rattle.regex_lines.specs.Searched.{named}
use Rattle.regex_lines.proofs.WindowLemmas.{Added}
use Rattle.regex_lines.proofs.searching.add_hidden.Given as goal

abbrev pub invariant-loop-index : goal.invariant-loop-index
invariant-loop-index l =
    Added l.fn.search.searcher.now.regex.now (job l.fn.search.task) (named l.fn.search.place) (λ line. line.items) l.fn.window.hidden.items
    (l.fn.window.number - length l.fn.window.hidden.items) l.fn.to.items l.index l.number l.to.items
