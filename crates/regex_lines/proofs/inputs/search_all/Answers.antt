use Rattle.std.proofs.Common.{map, subst}
use Rattle.std.specs.Prelude.{IfErr, string_bytes}
use Rattle.regex_lines.specs.Ending.{OrOutput}
use Rattle.regex_lines.specs.Searched.{WritesSomeOf, inputs_of}
use Rattle.regex_lines.specs.Unread.{all_unread}
use Rattle.regex_options.specs.Plain.{job}
use Rattle.regex_lines.proofs.inputs.search_all.Goals as goal

pub returns-clause-first : goal.returns-clause-first
returns-clause-first g c =
    let search = c.args.search in
    let task = job search.task in
    let inputs = inputs_of task search.form search.several (map string_bytes search.files.now) (g.I.Read.remaining c.args.input) in
    let old = g.W.Write.contents c.args.out.now in
    let new = g.W.Write.contents c.search_files-result.new.out in
    subst (λ r. IfErr c.search_files-result.result (OrOutput (WritesSomeOf r task inputs old new (all_unread c.search_files-result.new.unread))))
    c.new-searcher.ensures c.search_files-result.ensures.first
