use Rattle.std.proofs.Common.{◌∙◌}
use Rattle.regress.specs.Compiled.{match_of}
use Rattle.regex_lines.specs.Reply.{run_of}
use Rattle.regex_lines.proofs.JsonLemmas.{match_of_parts}
use Rattle.regex_lines.proofs.json.match_json.Goals as goal

pub returns : goal.returns
returns c =
    c.in_ok-format.ensures.ok ∙ match_of_parts (run_of c.args.run) c.args.regex.now (match_of c.args.found.now) _ _ _ _ c.range.ensures.start c.range.ensures.end
    c.in_ok-part.ensures c.in_ok-groups.ensures
