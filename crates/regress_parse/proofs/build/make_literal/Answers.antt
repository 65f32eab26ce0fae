use Rattle.std.proofs.Common.{ap, ◌∙◌}
use Rattle.regress_tree.specs.Tree.{leaf}
use Rattle.regress_base.proofs.lemmas.Literals.{listing_is_listed}
use Rattle.regress_parse.specs.TreeOf.{leaf_of_members}
use Rattle.regress_parse.proofs.build.make_literal.Goals as goal

pub returns : goal.returns
returns c =
    rw c.if-not-scope.false
    (c.make_members.ensures ∙ ap (λ members. leaf (leaf_of_members members)) (listing_is_listed _ _ c.in_ok-members.ensures.listing))
