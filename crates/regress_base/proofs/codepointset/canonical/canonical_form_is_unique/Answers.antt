use Rattle.regress_base.proofs.UniqueLemmas.{canonical_unique}
use Rattle.regress_base.proofs.codepointset.canonical.canonical_form_is_unique.Goals as goal

pub returns : goal.returns
returns c = canonical_unique
