use Rattle.std.proofs.Common.{◌∙◌}
use Rattle.regex_lines.specs.Reply.{run_of}
use Rattle.regex_lines.proofs.JsonLemmas.{group_of_parts}
use Rattle.regex_lines.proofs.json.group_json.Goals as goal

pub returns : goal.returns
returns c = c.in_ok-format.ensures.ok ∙ group_of_parts (run_of c.args.run) _ _ _ _ c.in_ok-name.ensures c.in_ok-part.ensures
