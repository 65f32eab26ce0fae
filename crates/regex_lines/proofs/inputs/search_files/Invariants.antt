-- The files so far were searched.
use Rattle.regex_lines.specs.Left.{left_of}
use Rattle.regex_lines.specs.Searched.{place_of}
use Rattle.regex_lines.specs.Unread.{all_unread}
use Rattle.regex_options.specs.Plain.{job}
use Rattle.regex_lines.proofs.InputLemmas.{SoFar}
use Rattle.regex_lines.proofs.inputs.search_files.Given as goal

abbrev pub invariant-loop-file : goal.invariant-loop-file
invariant-loop-file g l =
    SoFar l.fn.searcher.regex.now (job l.fn.search.task) (place_of (job l.fn.search.task) l.fn.search.form l.fn.search.several) l.fn.search.files.now (g.I.Read.remaining l.fn.input)
    (g.W.Write.contents l.fn.out) l.file-index l.any (all_unread l.unread) (left_of g.I.Read.remaining l.left) (g.W.Write.contents l.out)
