use Rattle.regress.proofs.RequiredLemmas.{literal_is_required}
use Rattle.regress.proofs.pattern.Regex.required_literal.Goals as goal

pub returns-clause-required : goal.returns-clause-required
returns-clause-required c = literal_is_required c.args.self.now c.required_literal.result c.required_literal.ensures.required
