use Rattle.regress_syntax.specs.Meaning.{setting_of}
use Rattle.regress_capi.proofs.DifferencesLemmas.{differences-are}
use Rattle.regress_capi.proofs.differing.find_differences.Goals as goal

pub returns-clause-listed : goal.returns-clause-listed
returns-clause-listed c =
    differences-are (setting_of c.args.flags c.args.tables.now) c.args.pattern.now (λ v. v.items) c.differences.result
    c.differences.ensures.listed c.differences.ensures.matches
