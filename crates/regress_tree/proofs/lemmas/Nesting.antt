-- One layer of a node.
use Rattle.std.proofs.Common.{◌≡◌, ◌∙◌, sym, ap, ℕ, Bool, Vec, Box, Global, rules}
use Rattle.std.specs.declared.ops.Range.{Range}
use Rattle.regress_base.specs.declared.types.Quantifier.{Quantifier}
use Rattle.regress_tree.specs.declared.ir.node.Node.{Node, out-Node, the_lemmas}
use Rattle.regress_tree.specs.declared.ir.node.Node.TheOpen.{Node-F}
use Rattle.regress_tree.specs.declared.ir.node.Node.TheVariants.{Cat, Alt, Loop, LookaroundAssertion}
use Rattle.regress_tree.specs.Tree.{tree, alt}
use Rattle.regress_tree.proofs.lemmas.Nodes.{tree-Alt}

pub out-Alt : (left right : Box Node Global) → out-Node (Alt left right) ≡ Node-F.Alt left right
out-Alt left right = search (rules, the_lemmas)

pub out-Loop : (loopee : Box Node Global) (quantifier : Quantifier) (groups : Range ℕ) →
    out-Node (Loop groups loopee quantifier) ≡ Node-F.Loop groups loopee quantifier
out-Loop loopee quantifier groups = search (rules, the_lemmas)

pub out-LookaroundAssertion : (negate backwards : Bool) (start end : ℕ) (contents : Box Node Global) →
    out-Node (LookaroundAssertion negate backwards start end contents) ≡ Node-F.LookaroundAssertion negate backwards start end contents
out-LookaroundAssertion negate backwards start end contents = search (rules, the_lemmas)

pub out-Cat : (parts : Vec Node Global) → out-Node (Cat parts) ≡ Node-F.Cat parts
out-Cat parts = search (rules, the_lemmas)

-- an `Alt`, by the value of its left side
pub alt_of : (node : Node) (left right : Box Node Global) (value : Node) → node ≡ Alt left right → value ≡ left.value →
    tree node ≡ alt (tree value) (tree right.value)
alt_of node left right value is value_is = ap tree is ∙ tree-Alt left right ∙ ap (λ n. alt (tree n) (tree right.value)) (sym value_is)
