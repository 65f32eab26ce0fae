use Rattle.std.proofs.Common.{◌∙◌}
use Rattle.regex_lines.proofs.JsonLemmas.{in_front}
use Rattle.regex_lines.proofs.prefix.json_prefix.Goals as goal

pub returns : goal.returns
returns c = c.in_ok-format.ensures.ok ∙ in_front c.args.name.now c.args.number
