use Rattle.std.proofs.Common.{rules, arith, ◌≡◌, ◌∙◌, Some, true, ap, sym, subst}
use Rattle.regress_tree.specs.Matching.{steps}
use Rattle.regress_tree.specs.Reading.{forwards}
use Rattle.regress_tree.specs.Tree.{Tree, tree, leaf, byte_sequence}
use Rattle.regress_tree.specs.declared.ir.node.Node.{the_lemmas}
use Rattle.regress_tree.proofs.lemmas.Nodes.{tree-ByteSequence}
use Rattle.regress_prefilter.specs.Near.{IsReachOf}
use Rattle.regress_prefilter.specs.declared.near.Reach.{Reach}
use Rattle.regress_prefilter.specs.OneCharacter.{takes_one}
use Rattle.regress_prefilter.proofs.FirstSetLemmas.{if-some, is_still}
use Rattle.regress_prefilter.proofs.NearLemmas.{at_most_one, at_most_still, reach_bytes}
use Rattle.regress_prefilter.proofs.RequiredLemmas.{takes_none}
use Rattle.regress_prefilter.proofs.near.reach_of_leaf.Goals as goal

pub returns-in-ByteSequence : goal.returns-in-ByteSequence
returns-in-ByteSequence c = λ setting bytes.
    let is : tree c.args.node.now ≡ leaf (byte_sequence c.deref.result.now) =
    ap tree c.in-ByteSequence.is ∙ tree-ByteSequence c.in-ByteSequence.written ∙ ap (λ bytes. leaf (byte_sequence bytes)) (sym c.deref.ensures.value) in
    let r : Reach = record { width = Some c.len.result; near = c.near_in.result } in
    subst (λ (t : Tree). IsReachOf r bytes (steps setting bytes forwards t)) (sym is)
    (reach_bytes r bytes c.deref.result.now (ap Some (c.len.ensures ∙ sym c.deref.ensures.len))
    (if-some c.near_in.result (λ near needs. needs bytes) c.near_in.ensures))

pub returns-in_default : goal.returns-in_default
returns-in_default c = λ setting bytes. c.unknown.ensures bytes _ (takes_none (tree c.args.node.now) setting bytes)

pub returns-in-Char : goal.returns-in-Char
returns-in-Char c = λ setting bytes.
    let t = tree c.args.node.now in
    let takes : takes_one t ≡ true = first_of (search (rules, the_lemmas), grind (arith, the_lemmas)) in
    c.up_to.ensures bytes _ (takes_none t setting bytes) (at_most_one c.width_of.result t takes c.width_of.ensures setting bytes)

pub returns-in-Empty : goal.returns-in-Empty
returns-in-Empty c = λ setting bytes.
    let t = tree c.args.node.now in
    let still : is_still t ≡ true = first_of (search (rules, the_lemmas), grind (arith, the_lemmas)) in
    c.up_to-in-Empty.ensures bytes _ (takes_none t setting bytes) (at_most_still t still setting bytes)
