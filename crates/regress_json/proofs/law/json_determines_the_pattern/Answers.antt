use Rattle.regress_json.proofs.lemmas.Determining.{json-determines}
use Rattle.regress_json.proofs.law.json_determines_the_pattern.Goals as goal

pub returns : goal.returns
returns c = json-determines
