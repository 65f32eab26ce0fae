use Rattle.std.proofs.Common.{rules, arith, ◌≡◌, ◌∙◌, true, ap, sym, subst}
use Rattle.std.specs.Prelude.{IfSome}
use Rattle.regress_base.specs.ByteBitmap.{contains}
use Rattle.regress_tree.specs.Tree.{Tree, tree, leaf, byte_sequence}
use Rattle.regress_tree.specs.declared.ir.node.Node.{the_lemmas}
use Rattle.regress_tree.proofs.lemmas.Nodes.{tree-ByteSequence}
use Rattle.regress_prefilter.specs.FirstPairs.{IsFirstPair}
use Rattle.regress_prefilter.proofs.FirstPairLemmas.{pair-one, pair-still}
use Rattle.regress_prefilter.proofs.FirstSetLemmas.{is_still}
use Rattle.regress_prefilter.proofs.first_pairs.pair_of_leaf.Goals as goal

pub returns-in-ByteSequence : goal.returns-in-ByteSequence
returns-in-ByteSequence c =
    let is : tree c.args.node.now ≡ leaf (byte_sequence c.deref.result.now) =
    ap tree c.in-ByteSequence.is ∙ tree-ByteSequence c.in-ByteSequence.written ∙ ap (λ bytes. leaf (byte_sequence bytes)) (sym c.deref.ensures.value) in
    subst (λ (t : Tree). IfSome c.pair_of_bytes.result (λ front. IsFirstPair front t)) (sym is) c.pair_of_bytes.ensures

pub returns-in_ok-set_of-in-Char : goal.returns-in_ok-set_of-in-Char
returns-in_ok-set_of-in-Char c = λ setting bytes.
    pair-one (contains c.in_ok-set_of-in-Char.field-0) _ setting bytes (tree c.args.node.now) c.in_ok-set_of-in-Char.ensures.0 c.in_ok-set_of-in-Char.ensures.1

pub returns-in-Empty : goal.returns-in-Empty
returns-in-Empty c =
    let still : is_still (tree c.args.node.now) ≡ true = first_of (search (rules, the_lemmas), grind (arith, the_lemmas)) in
    pair-still c.empty.result (tree c.args.node.now) c.empty.ensures.empty still
