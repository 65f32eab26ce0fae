use Rattle.std.proofs.lemmas.List.Elements.{All-nil}
use Rattle.std.proofs.Common.{All}
use Rattle.regress_explain.specs.declared.markup.Element.TheVariants.{Item, Items}
use Rattle.regress_explain.specs.declared.markup.Tag.TheVariants.{Open}
use Rattle.regress_explain.specs.Page.{IsListTag}
use Rattle.regress_explain.proofs.PageLemmas.{adds_nothing, one_list_tag}
use Rattle.regress_explain.proofs.listing.open_lists.Goals as goal

pub loop-list-init : goal.loop-list-init
loop-list-init c = adds_nothing (All IsListTag) _ (All-nil IsListTag)

pub loop-list-preserved : goal.loop-list-preserved
loop-list-preserved c = one_list_tag (Open Item) _ _ _ tt (one_list_tag (Open Items) _ _ _ tt c.loop-list.invariant c.in_ok-tag.ensures) c.in_ok-tag-2.ensures
