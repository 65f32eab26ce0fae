use Rattle.regress_differences.proofs.CaseLemmas.{class_same}
use Rattle.regress_differences.proofs.law.few_characters_differ_without_u.Goals as goal

pub returns : goal.returns
returns c = class_same
