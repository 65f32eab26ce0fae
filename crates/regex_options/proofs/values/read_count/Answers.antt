use Rattle.std.proofs.Common.{◌≢◌, ◌∙◌, get_or, rules}
use Rattle.regex_options.proofs.CountLemmas.{count_read}
use Rattle.regex_options.proofs.values.read_count.Goals as goal

pub returns : goal.returns
returns c =
    let plain : get_or c.args.text.now 0 0 ≢ 43 = search rules in
    c.ok.ensures.value ∙ count_read c.args.text.now _ c.parse.ensures.value.0 plain
