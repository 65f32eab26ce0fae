use Rattle.std.proofs.Common.{◌∙◌}
use Rattle.regex_lines.proofs.JsonLemmas.{located}
use Rattle.regex_lines.proofs.json.located_json.Goals as goal

pub returns : goal.returns
returns c = c.in_ok-format.ensures.ok ∙ located c.args.start c.args.end c.args.text.now
