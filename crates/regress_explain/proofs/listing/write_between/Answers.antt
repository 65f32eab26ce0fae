use Rattle.std.proofs.lemmas.Result.{on_ok_weaker}
use Rattle.regress_explain.specs.declared.markup.Element.TheVariants.{Item}
use Rattle.regress_explain.specs.declared.markup.Tag.TheVariants.{Close, Open}
use Rattle.regress_explain.proofs.PageLemmas.{one_list_tag}
use Rattle.regress_explain.proofs.listing.write_between.Goals as goal

pub returns : goal.returns
returns c =
    on_ok_weaker c.tag-2.result
    (λ added. one_list_tag (Open Item) _ _ _ tt (one_list_tag (Close Item) _ _ _ tt c.in_ok-close_lists.ensures c.in_ok-tag.ensures) added)
    c.tag-2.ensures
