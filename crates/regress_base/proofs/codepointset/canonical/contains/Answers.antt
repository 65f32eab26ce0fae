-- The search compares each interval with `cp`, and the results do not decrease.
use Rattle.std.proofs.Common.{◌∙◌, rules}
use Rattle.std.proofs.lemmas.Fn.{always_returns_same}
use Rattle.regress_base.proofs.SearchLemmas.{position_of, found_member}
use Rattle.regress_base.proofs.codepointset.canonical.contains.Goals as goal

pub returns : goal.returns
unfolding position_of
returns c =
    let placed = c.binary_search_by.ensures.position (position_of c.args.cp) (always_returns_same _ _ _ (λ a r f' k. search rules)) in
    c.is_ok.ensures.value
    ∙ found_member c.args.ivs.now c.args.cp c.binary_search_by.result c.requires c.binary_search_by.ensures.bound placed
