use Rattle.std.proofs.Common.{is_some, rules, ◌∙◌}
use Rattle.std.proofs.lemmas.Iterator.{YieldsList-from_slice}
use Rattle.std.proofs.lemmas.Iterator.Search.{any_from_yields_List}
use Rattle.regress_syntax.proofs.NumberingLemmas.{has_names_in}
use Rattle.regress_syntax.proofs.groups.named.is_any_named.Goals as goal

pub returns : goal.returns
returns c =
    any_from_yields_List is_some _ _ c.any.result c.any.ensures.ran (YieldsList-from_slice c.args.names.now cc) (λ x b q k. search rules)
    ∙ has_names_in c.args.names.now
