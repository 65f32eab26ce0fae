use Rattle.std.proofs.Common.{inr}
use Rattle.regex_options.specs.Plain.{job}
use Rattle.regex_lines.specs.Searched.{named}
use Rattle.regex_lines.proofs.SearchLemmas.{lines_part, nothing_printed}
use Rattle.regex_lines.proofs.inputs.read_input.Goals as goal

pub returns-in-Err-clause-first : goal.returns-in-Err-clause-first
returns-in-Err-clause-first g c =
    let r = c.args.search.searcher.now.regex.now in
    let task = job c.args.search.task in
    let place = named c.args.search.place in
    let input = g.I.Read.remaining c.args.input in
    let out = g.W.Write.contents c.args.out.now in
    inr (lines_part r task place input out out (nothing_printed r task place input out))
