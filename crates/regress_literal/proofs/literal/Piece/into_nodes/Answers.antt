-- The iterator chain gives a node for each piece.
use Rattle.std.proofs.Common.{◌≡◌, map, Vec, Global, refl, ap, ◌∙◌, rules}
use Rattle.std.proofs.lemmas.Iterator.{YieldsList-from_map_by, items_from_drains}
use Rattle.std.proofs.lemmas.Iterator.Adapters.{YieldsList-from_vec}
use Rattle.std.proofs.lemmas.Result.{IfOk-weaker}
use Rattle.regress_literal.specs.declared.literal.Piece.{Piece}
use Rattle.regress_tree.specs.declared.ir.node.Node.{Node}
use Rattle.regress_literal.specs.Literal.{piece}
use Rattle.regress_tree.specs.Tree.{leaf, list, tree, trees}
use Rattle.regress_literal.proofs.literal.Piece.into_nodes.Goals as goal

pub returns : goal.returns
returns c =
    IfOk-weaker c.collect.result _ (λ (nodes : Vec Node Global). trees nodes.items ≡ list (map (λ p. leaf (piece p)) c.args.pieces.items))
    (λ nodes ran.
    let yields =
    YieldsList-from_map_by _ tree (λ (p : Piece). leaf (piece p)) (YieldsList-from_vec c.args.pieces.items (cc) (search rules)) refl
    (λ x r q k. search rules) in
    ap list (ap (map tree) ran.2.0 ∙ items_from_drains ran.0 ran.1 yields))
    c.collect.ensures.ran
